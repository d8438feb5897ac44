-- What tables and a set text make: a bundle, or the first of their faults.
use Rattle.std.specs.Prelude.{◌≡◌, ◌≢◌, ℕ, ◌<◌, ◌≤◌, List, [], ◌∷◌, length, slice_get, take, Any, Some, ◌⊎◌}
use Rattle.std.specs.List.{AllByRecursion}
use Rattle.set_sum.specs.Bundles.{ShownBundle, most_sets, most_tables}
use Rattle.set_sum.specs.Members.{AreOnePattern, patterns_of_set}
use Rattle.set_sum.specs.Parts.{part_pattern, parts_shown}
use Rattle.set_sum.specs.SetTexts.{AreLines, IsFirstBadLine}
use Rattle.set_sum.specs.Sums.{HaveOverlap, HaveTwo}
use Rattle.set_sum.specs.declared.faults.SetFault.{SetFault}
use Rattle.set_sum.specs.declared.faults.SetFault.TheVariants.{S1, S2, S3, S4, S5, S6}
use Rattle.set_sum.specs.declared.members.Member.{Member}
use Rattle.set_sum.specs.declared.parts.Part.{Part}

-- ---- tables

-- the side of the first table
abbrev pub first_side : List Part → ℕ
first_side [] = 0
first_side (t ∷ ts) = (part_pattern t).side

-- some tables, and no more than a bundle may have
pub record AreFew (tables : List Part) : Type 0 where
  pub some : 0 < length tables
  pub few : length tables ≤ most_tables

-- that many tables, of one side
pub record AreAlike (tables : List Part) : Type 0 where
  pub count : AreFew tables
  pub one_side : AllByRecursion (λ t. (part_pattern t).side ≡ first_side tables) tables

-- ---- sets

-- the table of a member isn't there
abbrev pub NamesNoTable : List Part → List Member → Type 0
NamesNoTable tables set = Any (λ m. length tables ≤ m.table) set

-- two members, one of them transposed, have one pattern
abbrev pub NamesTwice : List Part → List Member → Type 0
NamesTwice tables set = HaveTwo (AreOnePattern (first_side tables) (parts_shown tables)) set

-- the patterns of two members share a tile
abbrev pub NamesOverlap : List Part → List Member → Type 0
NamesOverlap tables set = HaveOverlap (patterns_of_set (first_side tables) (parts_shown tables) set)

-- lines of sets, at least one and no more than a bundle may have
pub record AreSets (text : List ℕ) (sets : List (List Member)) : Type 0 where
  pub lines : AreLines text sets
  pub few : length sets ≤ most_sets

-- the tables and the text make this bundle: its sets are those of the text's lines, all of whose tables are there; no two
-- members of a set have one pattern where one of them is transposed, and no two share a tile
pub record IsBundleOf (tables : List Part) (text : List ℕ) (v : ShownBundle) : Type 0 where
  pub alike : AreAlike tables
  pub side : v.side ≡ first_side tables
  pub shown : v.tables ≡ parts_shown tables
  pub are_sets : AreSets text v.sets
  pub there : AllByRecursion (λ set. ¬ NamesNoTable tables set) v.sets
  pub apart : AllByRecursion (λ set. ¬ NamesTwice tables set) v.sets
  pub disjoint : AllByRecursion (λ set. ¬ NamesOverlap tables set) v.sets

-- ---- the faults, in their order: S5 for the tables, S4, S1, S5 for the lines, S2, S6, S3

-- the element at this place has the property, and none before it has
pub record IsFirstWith {X : Type 0} (Has : X → Type 0) (xs : List X) (place : ℕ) : Type 0 where
  pub item : X
  pub is_item : slice_get xs place ≡ Some item
  pub has : Has item
  pub first : AllByRecursion (λ x. ¬ Has x) (take place xs)

-- there is no table, or there are more than a bundle may have
abbrev pub AreNotFew : List Part → Type 0
AreNotFew tables = (length tables ≡ 0) ⊎ (most_tables < length tables)

-- the fault stands, and none before it in the order does
abbrev pub IsSetFaultOf : SetFault → List Part → List ℕ → Type 0
IsSetFaultOf (S1 line) tables text = AreAlike tables × IsFirstBadLine text line
IsSetFaultOf (S2 line) tables text =
    AreAlike tables × (sets : List (List Member)) × AreSets text sets × IsFirstWith (NamesNoTable tables) sets line
IsSetFaultOf (S3 line) tables text =
    AreAlike tables × (sets : List (List Member)) × AreSets text sets × AllByRecursion (λ set. ¬ NamesNoTable tables set) sets ×
    AllByRecursion (λ set. ¬ NamesTwice tables set) sets × IsFirstWith (NamesOverlap tables) sets line
IsSetFaultOf (S4 place) tables text = AreFew tables × IsFirstWith (λ t. (part_pattern t).side ≢ first_side tables) tables place
IsSetFaultOf (S6 line) tables text =
    AreAlike tables × (sets : List (List Member)) × AreSets text sets × AllByRecursion (λ set. ¬ NamesNoTable tables set) sets ×
    IsFirstWith (NamesTwice tables) sets line
IsSetFaultOf S5 tables text =
    AreNotFew tables ⊎ (AreAlike tables × (sets : List (List Member)) × AreLines text sets × (most_sets < length sets))
