-- Set texts: a line for each set, with its members.
use Rattle.std.specs.Prelude.{◌≡◌, ◌≢◌, ℕ, ◌+◌, ◌/◌, ◌%◌, ◌<◌, nat_lt, if◌then◌else◌, AllPairs, List, [], ◌∷◌, ◌++◌, codes, flat_map, length, ◌⊎◌}
use Rattle.std.specs.List.{AllByRecursion}
use Rattle.set_sum.specs.Members.{IsBefore}
use Rattle.set_sum.specs.declared.members.Member.{Member}

-- ---- how a set is written

-- a number below 100 in decimal, without a leading zero; the byte of the digit 0 is 48
abbrev pub numeral : ℕ → List ℕ
numeral n = if nat_lt n 10 then (48 + n) ∷ [] else (48 + n / 10) ∷ (48 + n % 10) ∷ []

-- a member: the number of its table, and behind it the letter `t` where the member is transposed
abbrev pub member_text : Member → List ℕ
member_text m = numeral m.table ++ (if m.is_transposed then codes "t" else [])

-- one space before each member; the byte of a space is 32
abbrev pub members_text : List Member → List ℕ
members_text set = flat_map (λ m. 32 ∷ member_text m) set

-- the line of a set: the word `set`, its members, and LF, whose byte is 10
abbrev pub set_line : List Member → List ℕ
set_line set = codes "set" ++ members_text set ++ 10 ∷ []

-- the lines of sets, one after the other
abbrev pub set_lines : List (List Member) → List ℕ
set_lines sets = flat_map set_line sets

-- ---- what a set text is

-- the members of a line: some, with numbers of one or two digits, each before all that follow it
pub record IsLine (set : List Member) : Type 0 where
  pub some : 0 < length set
  pub short : AllByRecursion (λ m. m.table < 100) set
  pub ascending : AllPairs IsBefore set

-- the text has lines of sets alone, one at least, and these are their members
pub record AreLines (text : List ℕ) (sets : List (List Member)) : Type 0 where
  pub some : 0 < length sets
  pub lines : AllByRecursion IsLine sets
  pub whole : text ≡ set_lines sets

-- no line of a set stands at the front of the text
abbrev pub BeginsWithNoLine : List ℕ → Type 0
BeginsWithNoLine text = (set : List Member) (behind : List ℕ) → IsLine set → text ≢ set_line set ++ behind

-- this line, counted from 0, is the first that isn't of a set: all before it are, and what follows them is neither the end
-- of a text that has lines, nor begins with the line of a set
pub record IsFirstBadLine (text : List ℕ) (line : ℕ) : Type 0 where
  pub before : List (List Member)
  pub rest : List ℕ
  pub number : length before ≡ line
  pub lines : AllByRecursion IsLine before
  pub whole : text ≡ set_lines before ++ rest
  pub more : (line ≡ 0) ⊎ (rest ≢ [])
  pub bad : BeginsWithNoLine rest
