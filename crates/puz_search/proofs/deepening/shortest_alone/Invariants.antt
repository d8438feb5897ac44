use Rattle.std.proofs.Common.{◌-◌}
use Rattle.puz_search.proofs.DeepLemmas.{IsDeep}
use Rattle.puz_search.proofs.deepening.shortest_alone.Given as goal

-- one thread's searches below the thresholds so far failed, and no solution has fewer moves than the bound
abbrev pub invariant-loop-bound : goal.invariant-loop-bound
invariant-loop-bound l = IsDeep l.guide l.start.board l.budget l.left l.bound

-- what gets less from threshold to threshold of one thread: how far the bound is below 255
abbrev pub decreases-loop-bound : goal.decreases-loop-bound
decreases-loop-bound l = 255 - l.bound
