use Rattle.std.proofs.Common.{Option, Some, None, IfNone, inr}
use Rattle.puz_walk.proofs.StartLemmas.{cut_without_sums}
use Rattle.puz_search.proofs.searches.Search.first.Goals as goal

none_so : {X : Type 0} (P : Type 0) → P → (o : Option X) → IfNone o P
none_so P h None = h
none_so P h (Some x) = tt

-- a board whose sums aren't all 255 at most is closed below each bound
pub returns-in_err-sums-clause-none : goal.returns-in_err-sums-clause-none
returns-in_err-sums-clause-none c =
    let s = c.args.self.now in
    none_so _ (inr (cut_without_sums s.guide.now.bundle s.start.now.board c.side-side.ensures.guide.bundle c.requires.board
    (c.requires.none c.in_err-sums.was) s.bound s.small)) c.from_residual.result
