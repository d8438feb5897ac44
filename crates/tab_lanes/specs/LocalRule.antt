-- The local rule over columns of entries, least entries and kinds.
use Rattle.std.specs.Prelude.{ℕ, ◌<◌, ◌≤◌, List, length, slice_index}
use Rattle.tab_file.specs.EntryRules.{KeepsRuleOfKind}

-- the entry at this place keeps the rule
abbrev pub KeepsRuleAt : List ℕ → List ℕ → List ℕ → ℕ → Type 0
KeepsRuleAt entries mins kinds i = KeepsRuleOfKind (slice_index kinds i) (slice_index mins i) (slice_index entries i)

-- those from one place to another keep it, the latter not among them
abbrev pub KeepRuleBetween : List ℕ → List ℕ → List ℕ → ℕ → ℕ → Type 0
KeepRuleBetween entries mins kinds from to = (i : ℕ) → from ≤ i → i < to → KeepsRuleAt entries mins kinds i

-- all keep it
abbrev pub AllPlacesKeepRule : List ℕ → List ℕ → List ℕ → Type 0
AllPlacesKeepRule entries mins kinds = KeepRuleBetween entries mins kinds 0 (length entries)

-- the entry at this place breaks the rule, and no entry before it does
pub record IsFirstBreach (entries mins kinds : List ℕ) (place : ℕ) : Type 0 where
  pub there : place < length entries
  pub bad : ¬ KeepsRuleAt entries mins kinds place
  pub before : KeepRuleBetween entries mins kinds 0 place
