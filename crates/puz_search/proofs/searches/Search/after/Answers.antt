use Rattle.std.proofs.Common.{◌≡◌, ◌+◌, ◌∷◌, ◌++◌, [], ap, length, length-append, subst, sym, ◌∙◌, arith}
use Rattle.puz_board.proofs.MovedLemmas.{IsBoardOf-moved}
use Rattle.puz_search.specs.Outcomes.{IsTrail}
use Rattle.puz_search.proofs.NodeLemmas.{led_after}
use Rattle.puz_search.proofs.searches.Search.after.Goals as goal

-- the letters of a node and one more are at most 255
pub joined-requires : goal.joined-requires
joined-requires c =
    let placed = c.requires.led.placed in
    let small = c.args.self.now.small in
    let same = ap length c.as_slice.ensures.value in
    omega arith

-- the letters of a node and that of its move lead from the first board to the one after the move
pub returns-clause-led : goal.returns-clause-led
returns-clause-led c =
    let s = c.args.self.now in
    let node = c.args.node.now in
    let placed = c.requires.led.placed in
    let items : c.joined.result.items ≡ node.letters.items ++ c.letter.result ∷ [] = c.joined.ensures
    ∙ ap (λ letters. letters ++ c.letter.result ∷ []) c.as_slice.ensures.value in
    let count : length c.joined.result.items ≡ length node.letters.items + 1 = ap length items ∙ length-append node.letters.items (c.letter.result ∷ []) in
    record {
      placed = record {
        board = IsBoardOf-moved s.guide.now.bundle.side node.board placed.board c.args.mv c.args.target.board c.requires.moved;
        sums = c.requires.sums;
        state = c.requires.state;
        left = omega arith;
      };
      leads = λ text trail. subst (λ letters. IsTrail s.start.now.board s.bound (letters ++ text)) (sym items)
          (led_after s node c.args.mv c.args.target.board c.letter.result text c.requires.led c.requires.bound c.requires.moved c.letter.ensures trail);
    }
