use Rattle.std.proofs.Common.{◌<◌, ◌≤◌, arith}
use Rattle.puz_board.specs.Parity.{blank_parity}
use Rattle.puz_search.proofs.DeepLemmas.{deep_first, deep_next, deep_spent}
use Rattle.puz_search.proofs.deepening.shortest.Goals as goal

-- deepening begins with the blank's parity as bound and the whole budget
pub loop-bound-init : goal.loop-bound-init
loop-bound-init g c =
    let b = c.args.start.now.board in
    deep_first c.args.guide.now b c.requires.board c.args.budget c.blank_parity-bound.result
    c.blank_parity-bound.ensures.parity c.blank_parity-bound.ensures.bit

-- where the search below a threshold is refuted, no solution has fewer moves than two above the bound
pub loop-bound-preserved : goal.loop-bound-preserved
loop-bound-preserved g c =
    let b = c.args.start.now.board in
    let is = rw c.whole-threshold.ensures at c.in-Refuted.ensures.answer in
    let low : c.loop-bound.bound < 254 = c.loop-bound-test.true in
    let bit : blank_parity b ≤ 1 = (let e = c.blank_parity-bound.ensures.parity in let bit = c.blank_parity-bound.ensures.bit in omega arith) in
    deep_next c.args.guide.now b c.requires.board c.args.budget c.loop-bound.left c.loop-bound.bound
    c.in-Refuted.boards low bit c.loop-bound.invariant is.0 is.1 is.2

-- where the budget ends below a threshold, the bound that was reached is the answer
pub returns-in-Spent : goal.returns-in-Spent
returns-in-Spent g c =
    let b = c.args.start.now.board in
    deep_spent c.args.guide.now b c.requires.board c.args.budget c.loop-bound.left
    c.loop-bound.bound c.loop-bound.invariant (rw c.whole-threshold.ensures at c.in-Spent.ensures.answer)
