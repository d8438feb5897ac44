use Rattle.std.proofs.Common.{◌≡◌, ◌++◌, ◌∙◌, List, None, Ok, Result, Some, ap, arith, codes, drop, length, subst, sym, ℕ}
use Rattle.std.proofs.lemmas.List.Prefix.{front_rest}
use Rattle.std.specs.Result.{result_ok}
use Rattle.claim_text.proofs.ClaimLemmas.{IfNone-always}
use Rattle.puz_goal.specs.Goals.{SolvesFor}
use Rattle.puz_goal.specs.declared.goals.Goal.{Goal}
use Rattle.puz_board.specs.declared.replays.MoveFault.{MoveFault}
use Rattle.pdb_parts.proofs.answers.moves_in.Goals as goal

-- the moves behind that front are those that were found
found : (g : Goal) (what front moves rest : List ℕ) (b : List ℕ) (n : ℕ) → moves ≡ drop (length front) what → what ≡ front ++ rest
    → SolvesFor g b rest n → SolvesFor g b moves n
found g what front moves rest b n behind is solves = subst (λ (t : List ℕ). SolvesFor g b t n) (sym (behind ∙ front_rest what front rest is)) solves

one_count : (r : Result ℕ MoveFault) (count n : ℕ) → Some count ≡ result_ok r → r ≡ Ok n → count ≡ n
one_count r count n some is = let same : Some count ≡ Some n = some ∙ ap result_ok is in cc

no_count : (r : Result ℕ MoveFault) (n : ℕ) → None ≡ result_ok r → ¬ (r ≡ Ok n)
no_count r n none is = let clash : None ≡ Some n = none ∙ ap result_ok is in cc

-- moves that don't solve the board refute nothing
pub returns-in_err-count-clause-none : goal.returns-in_err-count-clause-none
returns-in_err-count-clause-none c =
    IfNone-always c.from_residual-in_err-count.result
    (λ moves n is solves fewer. no_count c.replay_for.result n c.in_err-count.ensures.value
    (c.replay_for.ensures.solved n (found c.args.asked.now.goal c.args.what.now (codes "refused O2 by") c.in_ok-moves.moves.now moves c.args.asked.now.board n
    (c.in_ok-moves.ensures.cases.1 ∙ ap (λ (front : List ℕ). drop (length front) c.args.what.now) c.as_slice.ensures) is solves)))

-- nor do as many as the bound, or more
pub returns-else-count-from-clause-none : goal.returns-else-count-from-clause-none
returns-else-count-from-clause-none c = λ moves n is solves fewer.
    let same = one_count c.replay_for.result c.in_ok-count.count n c.in_ok-count.ensures.value
    (c.replay_for.ensures.solved n (found c.args.asked.now.goal c.args.what.now (codes "refused O2 by") c.in_ok-moves.moves.now moves c.args.asked.now.board n
    (c.in_ok-moves.ensures.cases.1 ∙ ap (λ (front : List ℕ). drop (length front) c.args.what.now) c.as_slice.ensures) is solves)) in
    let many = c.if-count-from.false in
    let from = c.from.ensures in
    absurd (omega (arith, same, many, from, fewer))
