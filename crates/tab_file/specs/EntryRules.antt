-- The local rule by numbers: the entry of a slot, the kind of the slot, and the least entry one move away.
use Rattle.std.specs.Prelude.{◌≡◌, ℕ, suc, ◌<◌}
use Rattle.tab_file.specs.EntryBytes.{greatest_count, no_region_entry, no_way_home}

-- ---- kinds of slots, each as a byte

-- the placement has no region for it
abbrev pub without_region : ℕ
without_region = 0

-- the placement is the goal's, and the region has cell 0
abbrev pub goal_slot : ℕ
goal_slot = 1

-- any other slot with a region
abbrev pub other_slot : ℕ
other_slot = 2

-- ---- the rule

-- by cases; the least entry one move away counts only for a slot of the last kind, and is 255 where there is none
pub data KeepsRuleOfKind (kind least entry : ℕ) : Type 0 where
  no_region : kind ≡ without_region → entry ≡ no_region_entry → KeepsRuleOfKind kind least entry
  goal : kind ≡ goal_slot → entry ≡ 0 → KeepsRuleOfKind kind least entry
  one_more : kind ≡ other_slot → least < greatest_count → entry ≡ suc least → KeepsRuleOfKind kind least entry
  never : kind ≡ other_slot → least ≡ no_way_home → entry ≡ no_way_home → KeepsRuleOfKind kind least entry
