-- Members of sets: a table, for its own pattern or for the transposed one. A pattern is the list of its tiles.
use Rattle.std.specs.Prelude.{◌≡◌, ◌⊎◌, ℕ, ◌<◌, true, false, if◌then◌else◌, List, map, slice_index_or}
use Rattle.puz_board.specs.Transposing.{transposed, transposed_tiles}
use Rattle.tab_rule.specs.declared.tables.Count.{Count}
use Rattle.set_sum.specs.Parts.{PartSays, ShownPart, no_part}
use Rattle.set_sum.specs.declared.members.Member.{Member}

-- ---- their order

-- members go by the numbers of their tables; of one table the plain member comes first, then the transposed one
abbrev pub IsBefore : Member → Member → Type 0
IsBefore m o = (m.table < o.table) ⊎ ((m.table ≡ o.table) × (m.is_transposed ≡ false) × (o.is_transposed ≡ true))

-- ---- their patterns

-- the table of a member
abbrev pub table_of : List ShownPart → Member → ShownPart
table_of tables m = slice_index_or tables m.table no_part

-- the pattern of a member's table
abbrev pub table_pattern : List ShownPart → Member → List ℕ
table_pattern tables m = (table_of tables m).tiles

-- the pattern of a member on side n: that of its table, or that pattern transposed
abbrev pub pattern_of : ℕ → List ShownPart → Member → List ℕ
pattern_of n tables m = if m.is_transposed then transposed_tiles n (table_pattern tables m) else table_pattern tables m

-- a table of a member's own pattern, which is folded where the member's table is
abbrev pub own_part : ℕ → List ShownPart → Member → ShownPart
own_part n tables m = record { tiles = pattern_of n tables m; is_folded = (table_of tables m).is_folded }

-- the patterns of the members of a set
abbrev pub patterns_of_set : ℕ → List ShownPart → List Member → List (List ℕ)
patterns_of_set n tables set = map (pattern_of n tables) set

-- the members have one pattern, and one of them is transposed
pub record AreOnePattern (n : ℕ) (tables : List ShownPart) (m o : Member) : Type 0 where
  pub transposed : (m.is_transposed ≡ true) ⊎ (o.is_transposed ≡ true)
  pub same : pattern_of n tables m ≡ pattern_of n tables o

-- ---- what they say of a board

-- the board that a member looks up in its table: this one, or this one transposed
abbrev pub board_for : Member → List ℕ → List ℕ
board_for m b = if m.is_transposed then transposed b else b

-- what a member says of a board: what its table tells of the board that it looks up
abbrev pub MemberSays : List ShownPart → Member → List ℕ → Count → Type 0
MemberSays tables m b count = PartSays (table_of tables m) (board_for m b) count
