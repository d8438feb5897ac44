-- The slots of one placement, and the list of its regions.
use Rattle.std.proofs.Common.{ℕ, ◌*◌, ◌<◌, ◌≤◌, List, length, arith}
use Rattle.pat_place.specs.Regions.{AreRegions, IsLeader, here}
use Rattle.pat_place.proofs.SlotLemmas.{count_grows, count_place}
use Rattle.tab_rule.specs.Entries.{HasNoRegion, HasRegion}

module _ (n : ℕ) (cells masks : List ℕ) (are : AreRegions n cells masks) where
  -- slots from the number of regions on have no region
  pub none_past : (j : ℕ) → length masks ≤ j → HasNoRegion n cells j
  none_past j l c is =
      let low : j < length masks = count_grows (IsLeader n cells) is.leader (n * n) j (length masks) is.is_leader is.is_leader.0.0 is.below are.all in
      omega arith

  -- each slot below the number of regions has one
  pub region_of_mask : (j : ℕ) → j < length masks → HasRegion n cells j
  region_of_mask j l =
      let x = count_place (IsLeader n cells) (n * n) (length masks) j are.all l in
      record { cell = x.0; in_slot = record { free = x.2.0; leader = x.0; joined = here; is_leader = x.2; below = x.3 } }
