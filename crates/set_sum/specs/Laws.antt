-- What holds of all sets of disjoint patterns, and of all set texts.
use Rattle.std.specs.Prelude.{◌≡◌, ◌⊎◌, ℕ, ◌≤◌, List, length}
use Rattle.puz_board.specs.Boards.{IsBoardOf}
use Rattle.pat_place.specs.Patterns.{IsPattern}
use Rattle.tab_rule.specs.declared.tables.Count.{Count}
use Rattle.set_sum.specs.Bounds.{BoundsSolutions}
use Rattle.set_sum.specs.Bundles.{ShownBundle, IsSetOf}
use Rattle.set_sum.specs.Members.{MemberSays, own_part, table_pattern}
use Rattle.set_sum.specs.Parts.{PartSays, ShownPart}
use Rattle.set_sum.specs.Reading.{IsBundleOf, IsSetFaultOf}
use Rattle.set_sum.specs.Sums.{AreDisjoint, SetSays, total_cost}
use Rattle.set_sum.specs.declared.faults.SetFault.{SetFault}
use Rattle.set_sum.specs.declared.members.Member.{Member}
use Rattle.set_sum.specs.declared.parts.Part.{Part}

-- what a path costs disjoint patterns together is at most its number of steps, since each step moves one tile
abbrev pub DisjointCostsAreWithinTheLength : Type 0
DisjointCostsAreWithinTheLength = (patterns : List (List ℕ)) → AreDisjoint patterns → (b path : List ℕ) → total_cost patterns b path ≤ length path

-- what a set of members with disjoint patterns says of a board bounds the board's solutions
abbrev pub SetsBoundSolutions : Type 0
SetsBoundSolutions =
    (n : ℕ) (tables : List ShownPart) (set : List Member) → IsSetOf n tables set → (b : List ℕ) → IsBoardOf n b → (count : Count) →
    SetSays tables set b count → BoundsSolutions b count

-- what a member says of a board is what a table of its own pattern says of it
abbrev pub MembersSayTheirPatterns : Type 0
MembersSayTheirPatterns =
    (n : ℕ) (tables : List ShownPart) (m : Member) → IsPattern (record { side = n; tiles = table_pattern tables m }) → (b : List ℕ) → IsBoardOf n b →
    (count : Count) → MemberSays tables m b count → PartSays (own_part n tables m) b count

-- no set says two things of a board
abbrev pub SetsSayOneThing : Type 0
SetsSayOneThing =
    (tables : List ShownPart) (set : List Member) (b : List ℕ) (c d : Count) → SetSays tables set b c → SetSays tables set b d → c ≡ d

-- ---- one answer

-- no tables and text make two bundles
abbrev pub TextsHaveOneBundle : Type 0
TextsHaveOneBundle = (tables : List Part) (text : List ℕ) (v w : ShownBundle) → IsBundleOf tables text v → IsBundleOf tables text w → v ≡ w

-- none have two faults
abbrev pub TextsHaveOneFault : Type 0
TextsHaveOneFault = (tables : List Part) (text : List ℕ) (f g : SetFault) → IsSetFaultOf f tables text → IsSetFaultOf g tables text → f ≡ g

-- none make a bundle and have a fault
abbrev pub BundlesHaveNoFault : Type 0
BundlesHaveNoFault = (tables : List Part) (text : List ℕ) (v : ShownBundle) (f : SetFault) → IsBundleOf tables text v → ¬ IsSetFaultOf f tables text

-- all tables and all texts make a bundle or have a fault
abbrev pub TextsHaveAnAnswer : Type 0
TextsHaveAnAnswer = (tables : List Part) (text : List ℕ) → ((v : ShownBundle) × IsBundleOf tables text v) ⊎ ((f : SetFault) × IsSetFaultOf f tables text)
