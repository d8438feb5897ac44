use Rattle.std.proofs.Common.{◌-◌}
use Rattle.puz_search.proofs.DeepLemmas.{IsDeep}
use Rattle.puz_search.proofs.deepening.shortest.Given as goal

-- the searches below the thresholds so far failed, and no solution has fewer moves than the bound
abbrev pub invariant-loop-bound : goal.invariant-loop-bound
invariant-loop-bound g l = IsDeep l.guide l.start.board l.budget l.left l.bound

-- what gets less from threshold to threshold: how far the bound is below 255
abbrev pub decreases-loop-bound : goal.decreases-loop-bound
decreases-loop-bound g l = 255 - l.bound
