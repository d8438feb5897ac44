use Rattle.std.proofs.Common.{◌≡◌, true, ltb, ltb-true, ◌<◌, ◌≤◌, sym, ◌∙◌, subst, arith}
use Rattle.puz_board.specs.Boards.{IsBoardOf}
use Rattle.log_check.proofs.NodeLemmas.{Cites-bound}
use Rattle.log_check.proofs.lemmas.cites.Goals as goal
use Rattle.log_check.proofs.lemmas.cites.Goals.{then-j-i, else-j-i}

-- the board of the lemma to be cited is one of the bundle's side
pub is_board-requires : goal.is_board-requires
is_board-requires c = subst (λ n. IsBoardOf n c.board.result) c.requires.side c.board.ensures.board

-- an earlier lemma of the same board may be cited exactly where its bound is no less
pub returns-then-is_board : goal.returns-then-is_board
returns-then-is_board c = elim c.if-j-i.branch [
  | then-j-i w ↦
      let b = c.args.reached.now.sums.board in
      let same : w.board.result ≡ b = w.is_board.ensures.0 (sym w.value-is ∙ c.if-is_board.true) in
      Cites-bound c.args.log.now.lemmas c.args.i c.args.j b c.args.reached.now.bound c.bound.result c.requires.there w.if-j-i.true
      (λ lemma there. sym same ∙ w.board.ensures.value lemma there) c.bound.ensures
  | else-j-i w ↦
      let late : ltb c.args.j c.args.i ≡ true = sym w.value-is ∙ c.if-is_board.true in
      let early : c.args.j < c.args.i = ltb-true c.args.j c.args.i late in
      let not_early : c.args.i ≤ c.args.j = w.if-j-i.false in
      absurd (omega arith)
]
