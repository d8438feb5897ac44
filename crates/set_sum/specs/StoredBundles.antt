-- How a bundle is stored: its tables, for each set its members, and what a walk asks at each move.
use Rattle.std.specs.Prelude.{◌≡◌, ℕ, ◌*◌, ◌<◌, List, length, slice_index}
use Rattle.std.specs.List.{AllByRecursion}
use Rattle.puz_board.specs.Transposing.{transposed_cell}
use Rattle.set_sum.specs.Bundles.{ShownBundle, IsBundle}
use Rattle.set_sum.specs.Owners.{AreOwners}
use Rattle.set_sum.specs.Parts.{ShownPart, part_pattern, parts_shown}
use Rattle.set_sum.specs.declared.bundles.Bundle.TheInside.{Inside}

-- the bundle with this side, these tables, and these sets
abbrev pub bundle_shown : Inside → ShownBundle
bundle_shown v = record {
  side = v.side;
  tables = parts_shown v.tables.items;
  sets = v.sets;
}

-- for each tile of side n the places of its owners are kept
pub record AreAllOwners (n : ℕ) (tables : List ShownPart) (owners : List ℕ) : Type 0 where
  pub room : length owners ≡ 25
  pub each : (tile : ℕ) → tile < n * n → AreOwners n tables tile (slice_index owners tile)

-- and for each cell the transposed one
pub record AreAllTransposed (n : ℕ) (cells : List ℕ) : Type 0 where
  pub room : length cells ≡ 25
  pub each : (cell : ℕ) → cell < n * n → slice_index cells cell ≡ transposed_cell n cell

-- these are the fields of a bundle, each table of which has its side
pub record IsStoredBundle (v : Inside) : Type 0 where
  pub bundle : IsBundle (bundle_shown v)
  pub tables : AllByRecursion (λ t. (part_pattern t).side ≡ v.side) v.tables.items
  pub owners : AreAllOwners v.side (parts_shown v.tables.items) v.owners
  pub transposed : AreAllTransposed v.side v.transposed
