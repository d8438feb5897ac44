-- How the lines of a set text are read, where there are so many tables.
use Rattle.std.specs.Prelude.{◌≡◌, ℕ, ◌<◌, ◌≤◌, ◌++◌, ⊤, Any, Bool, true, false, List, length, Option, Some, None, take}
use Rattle.std.specs.List.{AllByRecursion}
use Rattle.set_sum.specs.Bundles.{most_sets}
use Rattle.set_sum.specs.Members.{IsBefore}
use Rattle.set_sum.specs.Reading.{IsFirstWith}
use Rattle.set_sum.specs.SetTexts.{IsLine, set_line}
use Rattle.set_sum.specs.declared.members.Member.{Member}

-- the byte behind a member: LF behind the last one, and a space behind the others
abbrev pub ending : Bool → ℕ
ending true = 10
ending false = 32

-- the member may stand behind the last one of a line, if there is one
abbrev pub MayFollow : Option Member → Member → Type 0
MayFollow None m = ⊤
MayFollow (Some last) m = IsBefore last m

-- the members are read as a set where the tables of all of them are there
abbrev pub IsReadAsSet : ℕ → List Member → Option (List Member) → Type 0
IsReadAsSet tables members (Some set) = (set ≡ members) × AllByRecursion (λ m. m.table < tables) members
IsReadAsSet tables members None = Any (λ m. tables ≤ m.table) members

-- the text begins with a line, which is read as this set, and behind it is the rest
pub record IsReadLine (tables : ℕ) (text : List ℕ) (set : Option (List Member)) (rest : List ℕ) : Type 0 where
  pub members : List Member
  pub is_line : IsLine members
  pub whole : text ≡ set_line members ++ rest
  pub is_read : IsReadAsSet tables members set

-- as many lines as a bundle may have sets are kept, the first of them, where all lines are read as sets; otherwise the first that isn't is known
abbrev pub AreKept : ℕ → List (List Member) → Option ℕ → List (List Member) → Type 0
AreKept tables lines None kept = (kept ≡ take most_sets lines) × AllByRecursion (AllByRecursion (λ m. m.table < tables)) lines
AreKept tables lines (Some first) kept = IsFirstWith (λ set. Any (λ m. tables ≤ m.table) set) lines first

-- the lines are counted and kept
pub record AreReadLines (tables : ℕ) (lines : List (List Member)) (count : ℕ) (missing : Option ℕ) (kept : List (List Member)) : Type 0 where
  pub counted : count ≡ length lines
  pub are_kept : AreKept tables lines missing kept
