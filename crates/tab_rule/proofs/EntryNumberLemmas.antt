-- The number of an entry: its placement and its rank.
use Rattle.std.proofs.Common.{◌≡◌, ℕ, ◌+◌, ◌*◌, ◌<◌, List, length, Some, sym, ◌∙◌, subst}
use Rattle.std.specs.Prelude.{slice_get}
use Rattle.std.specs.List.{range_with_len}
use Rattle.pat_place.specs.Patterns.{ShownPattern}
use Rattle.pat_place.specs.Placements.{IsPlacement}
use Rattle.pat_place.specs.Ranks.{IsRank, placements}
use Rattle.pat_place.proofs.ListLemmas.{Some-one}
use Rattle.pat_place.proofs.RankLemmas.{get-below, inside_from, placement_of_rank}
use Rattle.tab_file.specs.Tables.{placement_count, slot_count}
use Rattle.tab_rule.specs.Entries.{IsEntryNumber}

module _ {p : ShownPattern} {cells : List ℕ} {j number : ℕ} (is : IsEntryNumber p cells j number) where
  -- what stands in the list of all placements is one
  pub entry_placement : IsPlacement (record { pattern = p; cells = cells })
  unfolding placements
  entry_placement =
      let count = p.side * p.side in
      let z = placement_of_rank (length p.tiles) (range_with_len 0 count) is.rank cells is.is_placement in
      record { size = z.0; inside = inside_from count cells z.2; apart = z.1 }

  -- its place there is its rank
  pub entry_rank : IsRank p.side cells is.rank
  entry_rank =
      let size = entry_placement.size in
      subst (λ k. slice_get (placements p.side k) is.rank ≡ Some cells) (sym size) is.is_placement

  -- the rank is below the count of placements
  pub entry_rank_below : is.rank < placement_count p
  entry_rank_below = get-below (placements p.side (length p.tiles)) is.rank cells is.is_placement

  -- cells of the same rank are the same
  pub entry_cells : (other : List ℕ) (r : ℕ) → length other ≡ length p.tiles → IsRank p.side other r → r ≡ is.rank
      → other ≡ cells
  entry_cells other r size ranked same =
      let there = subst (λ k. slice_get (placements p.side k) r ≡ Some other) size ranked in
      let here = subst (λ r. slice_get (placements p.side (length p.tiles)) r ≡ Some other) same there in
      Some-one other cells (sym here ∙ is.is_placement)

-- the number that a rank and a slot give
pub entry_number : {p : ShownPattern} {cells : List ℕ} {j number : ℕ} (r : ℕ) → length cells ≡ length p.tiles
    → IsRank p.side cells r → j < slot_count p → number ≡ r * slot_count p + j → IsEntryNumber p cells j number
entry_number {p} {cells} r size ranked low counted = record {
  rank = r;
  is_placement = subst (λ k. slice_get (placements p.side k) r ≡ Some cells) size ranked;
  slot = low;
  counted = counted;
}
