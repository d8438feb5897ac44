-- The members whose pattern has a tile, by their places.
use Rattle.std.specs.Prelude.{◌≡◌, ℕ, ◌<◌, if◌then◌else◌, Bool, true, List, length}
use Rattle.std.specs.Int.{bit_at}
use Rattle.puz_board.specs.Costs.{has}
use Rattle.puz_board.specs.Transposing.{transposed_cell}
use Rattle.pat_place.specs.Patterns.{IsPattern}
use Rattle.set_sum.specs.Known.{place_of}
use Rattle.set_sum.specs.Members.{table_pattern}
use Rattle.set_sum.specs.Parts.{ShownPart}
use Rattle.set_sum.specs.declared.members.Member.{Member}

-- whether a member's pattern has a tile: a transposed member's does where its table's pattern has the transposed tile
abbrev pub has_tile : ℕ → List ShownPart → Member → ℕ → Bool
has_tile n tables m tile = has (table_pattern tables m) (if m.is_transposed then transposed_cell n tile else tile)

-- a member's table has a pattern of side n, and where the member's pattern has the tile these places have the member's
pub record IsOwner (n : ℕ) (tables : List ShownPart) (tile places : ℕ) (m : Member) : Type 0 where
  pub pattern : IsPattern (record { side = n; tiles = table_pattern tables m })
  pub owned : has_tile n tables m tile ≡ true → bit_at places (place_of m) ≡ 1

-- the same of each member of the first tables
abbrev pub AreOwnersOf : ℕ → List ShownPart → ℕ → ℕ → ℕ → Type 0
AreOwnersOf n tables tile count places = (m : Member) → m.table < count → IsOwner n tables tile places m

-- and of all tables
abbrev pub AreOwners : ℕ → List ShownPart → ℕ → ℕ → Type 0
AreOwners n tables tile places = AreOwnersOf n tables tile (length tables) places
