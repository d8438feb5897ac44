-- What a set text says over patterns, and over a number of tables: what it says over any tables that have these, or are so many.
use Rattle.std.specs.Prelude.{◌≡◌, ℕ, ◌<◌, List, length, map}
use Rattle.std.specs.List.{AllByRecursion}
use Rattle.pat_place.specs.Patterns.{ShownPattern}
use Rattle.set_sum.specs.Bundles.{ShownBundle}
use Rattle.set_sum.specs.Parts.{part_pattern, parts_shown}
use Rattle.set_sum.specs.Reading.{AreAlike, AreSets, IsBundleOf, IsSetFaultOf, first_side}
use Rattle.set_sum.specs.declared.faults.SetFault.{SetFault}
use Rattle.set_sum.specs.declared.members.Member.{Member}
use Rattle.set_sum.specs.declared.parts.Part.{Part}
use Rattle.set_sum.specs.declared.parts.Part.TheVariants.{Folded}

-- ---- over patterns

-- the bundle of tables of one side and these sets
abbrev pub bundle_with : List Part → List (List Member) → ShownBundle
bundle_with tables sets = record { side = first_side tables; tables = parts_shown tables; sets = sets }

-- the text makes a bundle with these sets, whichever tables have these patterns
abbrev pub AreSetsOver : List ShownPattern → List ℕ → List (List Member) → Type 0
AreSetsOver patterns text sets = (tables : List Part) → map part_pattern tables ≡ patterns → IsBundleOf tables text (bundle_with tables sets)

-- the text has this fault, whichever tables have these patterns
abbrev pub IsFaultOver : SetFault → List ShownPattern → List ℕ → Type 0
IsFaultOver fault patterns text = (tables : List Part) → map part_pattern tables ≡ patterns → IsSetFaultOf fault tables text

-- ---- over so many tables

-- the text has these sets, all of whose tables are there
abbrev pub AreSetsAmong : ℕ → List ℕ → List (List Member) → Type 0
AreSetsAmong count text sets = AreSets text sets × AllByRecursion (AllByRecursion (λ m. m.table < count)) sets

-- the text has this fault, whichever so many tables of one side there are
abbrev pub IsFaultOverAny : SetFault → ℕ → List ℕ → Type 0
IsFaultOverAny fault count text = (tables : List Part) → AreAlike tables → length tables ≡ count → IsSetFaultOf fault tables text

-- ---- what proofs alone need

-- some tables with these patterns
abbrev pub tables_with : List ShownPattern → List Part
tables_with patterns = map Folded patterns
