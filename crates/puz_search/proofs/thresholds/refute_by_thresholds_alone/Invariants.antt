use Rattle.std.proofs.Common.{◌+◌, ◌-◌}
use Rattle.puz_search.proofs.ThresholdLemmas.{IsRising}
use Rattle.puz_search.proofs.thresholds.refute_by_thresholds_alone.Given as goal

-- the searches below the thresholds so far failed, and the next one is this
abbrev pub invariant-loop-bound : goal.invariant-loop-bound
invariant-loop-bound l = IsRising l.guide l.claim.part l.start.board l.claim.bound l.budget l.left l.bound

-- what gets less from threshold to threshold: how far it is below the last
abbrev pub decreases-loop-bound : goal.decreases-loop-bound
decreases-loop-bound l = l.last + 1 - l.bound
