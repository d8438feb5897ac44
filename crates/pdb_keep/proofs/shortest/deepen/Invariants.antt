use Rattle.std.proofs.Common.{◌-◌, ◌^◌, ◌≤◌}
use Rattle.pdb_keep.specs.GivenUp.{IsTooLong}
use Rattle.pdb_keep.proofs.ThresholdLemmas.{IsWithin}
use Rattle.pdb_keep.proofs.shortest.deepen.Given as goal

-- the searches below the thresholds so far fail, and where the last of them expands many boards the log may be too long
abbrev pub invariant-loop-count : goal.invariant-loop-count
invariant-loop-count g l =
    IsWithin l.guide l.start.board l.budget l.left l.count × (2 ^ 28 ≤ l.boards → IsTooLong l.guide.bundle l.start.board)

-- what gets less with each threshold: how far the count is below 255
abbrev pub decreases-loop-count : goal.decreases-loop-count
decreases-loop-count g l = 255 - l.count
