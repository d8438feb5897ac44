-- Bundles, as they are stored and as they are made.
use Rattle.std.proofs.Common.{◌≡◌, ℕ, ◌<◌, ◌≤◌, List, [], ◌∷◌, length, get_or, inl, inr, refl, sym, ◌∙◌, ap, subst, arith}
use Rattle.std.proofs.lemmas.Bool.{cases_lt}
use Rattle.std.proofs.lemmas.List.{length-map}
use Rattle.std.specs.Prelude.{Any}
use Rattle.std.specs.List.{AllByRecursion}
use Rattle.puz_board.specs.Boards.{IsBoardOf}
use Rattle.pat_place.specs.Patterns.{IsPattern}
use Rattle.tab_rule.specs.declared.tables.Count.{Count}
use Rattle.set_sum.specs.Bundles.{ShownBundle, IsBundle, IsSetOf, TellsOfAll, most_tables}
use Rattle.set_sum.specs.Members.{board_for, patterns_of_set, table_of}
use Rattle.set_sum.specs.Parts.{IsExactPart, PartSays, ShownPart, no_part, part_pattern, part_shown, parts_shown}
use Rattle.set_sum.specs.SetTexts.{IsLine}
use Rattle.set_sum.specs.OverPatterns.{bundle_with}
use Rattle.set_sum.specs.Reading.{IsBundleOf, NamesNoTable, NamesOverlap, first_side}
use Rattle.set_sum.specs.StoredBundles.{AreAllOwners, AreAllTransposed, IsStoredBundle, bundle_shown}
use Rattle.set_sum.specs.Sums.{AreDisjoint, SetSays}
use Rattle.set_sum.specs.declared.bundles.Bundle.TheInside.{Inside}
use Rattle.set_sum.specs.declared.members.Member.{Member}
use Rattle.set_sum.specs.declared.parts.Part.{Part}
use Rattle.set_sum.proofs.AnyLemmas.{Any-here, Any-later}
use Rattle.set_sum.proofs.ListLemmas.{all_at, all_weaker}
use Rattle.set_sum.proofs.HomeLemmas.{IsOf}
use Rattle.set_sum.proofs.MemberLemmas.{board_for-good}
use Rattle.set_sum.proofs.PartLemmas.{part_told, pattern_exact, shown_tiles}
use Rattle.set_sum.proofs.SumLemmas.{IsTold, set_told}

-- the tables of a set's members are there
pub set_there : (v : ShownBundle) → IsBundle v → (number : ℕ) → number < length v.sets
    → AllByRecursion (λ m. m.table < length v.tables) (get_or v.sets number [])
set_there v is number low = all_at (AllByRecursion (λ m. m.table < length v.tables)) v.sets number [] low is.there

-- ---- a bundle that is made

-- the tiles that are shown are a pattern
abbrev IsShownOf : ℕ → ShownPart → Type 0
IsShownOf n part = IsOf n part.tiles

all_patterns : (n : ℕ) (tables : List Part) → AllByRecursion (λ t. (part_pattern t).side ≡ n) tables → AllByRecursion (λ t. IsPattern (part_pattern t)) tables
    → AllByRecursion (IsShownOf n) (parts_shown tables)
all_patterns n [] sides patterns = tt
all_patterns n (t ∷ tables) sides patterns =
    (subst (IsOf n) (shown_tiles t) (subst (λ m. IsOf m (part_pattern t).tiles) sides.0 patterns.0), all_patterns n tables sides.1 patterns.1)

-- an exact table tells something of each board
abbrev TellsAll : ℕ → ShownPart → Type 0
TellsAll n part = (b : List ℕ) → IsBoardOf n b → (count : Count) × PartSays part b count

all_told : (n : ℕ) (tables : List Part) → AllByRecursion (λ t. (part_pattern t).side ≡ n) tables → AllByRecursion IsExactPart tables
    → AllByRecursion (TellsAll n) (parts_shown tables)
all_told n [] sides exact = tt
all_told n (t ∷ tables) sides exact = (λ b board. part_told t exact.0 b (subst (λ m. IsBoardOf m b) (sym sides.0) board), all_told n tables sides.1 exact.1)

-- what holds of each table holds of the members' tables
all_members : (P : ShownPart → Type 0) (tables : List Part) (set : List Member) → AllByRecursion P (parts_shown tables)
    → AllByRecursion (λ m. m.table < length tables) set
    → AllByRecursion (λ m. P (table_of (parts_shown tables) m)) set
all_members P tables [] all there = tt
all_members P tables (m ∷ set) all there = (
  all_at P (parts_shown tables) m.table no_part (subst (λ k. m.table < k) (sym (length-map tables part_shown)) there.0) all,
  all_members P tables set all there.1,
)

each_set : (n : ℕ) (tables : List Part) (sets : List (List Member)) → n ≡ first_side tables → AllByRecursion (IsShownOf n) (parts_shown tables)
    → AllByRecursion IsLine sets
    → AllByRecursion (AllByRecursion (λ m. m.table < length tables)) sets → AllByRecursion (λ set. ¬ NamesOverlap tables set) sets
    → AllByRecursion (IsSetOf n (parts_shown tables)) sets
each_set n tables [] side all lines there disjoint = tt
each_set n tables (set ∷ sets) side all lines there disjoint = (
  record {
    some = lines.0.some;
    patterns = all_members (IsShownOf n) tables set all there.0;
    disjoint = subst (λ k. AreDisjoint (patterns_of_set k (parts_shown tables) set)) (sym side) disjoint.0;
  },
  each_set n tables sets side all lines.1 there.1 disjoint.1,
)

first_limits : (n : ℕ) (tables : List Part) → 0 < length tables → AllByRecursion (λ t. (part_pattern t).side ≡ n) tables
    → AllByRecursion (λ t. IsPattern (part_pattern t)) tables → (2 ≤ n) × (n ≤ 5)
first_limits n [] some sides patterns = absurd (omega arith)
first_limits n (t ∷ tables) some sides patterns = (subst (λ m. 2 ≤ m) sides.0 patterns.0.low, subst (λ m. m ≤ 5) sides.0 patterns.0.high)

-- where no member's table is missing, each is there
none_missing : (tables : ℕ) (set : List Member) → ¬ Any (λ m. tables ≤ m.table) set → AllByRecursion (λ m. m.table < tables) set
none_missing tables [] none = tt
none_missing tables (m ∷ set) none = elim (cases_lt m.table tables) [
  | inl low ↦ (low, none_missing tables set (λ any. none (Any-later (λ o. tables ≤ o.table) m set any)))
  | inr high ↦ absurd (none (Any-here (λ o. tables ≤ o.table) m set high))
]

-- what exact tables and a text make is a bundle
module _ (tables : List Part) (text : List ℕ) (v : ShownBundle) (exact : AllByRecursion IsExactPart tables) (is : IsBundleOf tables text v) where
  sides : AllByRecursion (λ t. (part_pattern t).side ≡ v.side) tables
  sides = all_weaker (λ t. (part_pattern t).side ≡ first_side tables) (λ t. (part_pattern t).side ≡ v.side)
      (λ t same. same ∙ sym is.side) tables is.alike.one_side

  patterns : AllByRecursion (λ t. IsPattern (part_pattern t)) tables
  patterns = all_weaker IsExactPart (λ t. IsPattern (part_pattern t)) pattern_exact tables exact

  there : AllByRecursion (AllByRecursion (λ m. m.table < length tables)) v.sets
  there = all_weaker (λ set. ¬ NamesNoTable tables set) (AllByRecursion (λ m. m.table < length tables)) (none_missing (length tables)) v.sets is.there

  counted : length tables ≡ length v.tables
  counted = sym (ap length is.shown ∙ length-map tables part_shown)

  told : TellsOfAll v
  told number low b board =
      let set : List Member = get_or v.sets number [] in
      let parts : List ShownPart = parts_shown tables in
      let set_is_there = all_at (AllByRecursion (λ m. m.table < length tables)) v.sets number [] low there in
      let each = all_members (TellsAll v.side) tables set (all_told v.side tables sides exact) set_is_there in
      let told = all_weaker (λ (m : Member). TellsAll v.side (table_of parts m)) (IsTold parts b)
      (λ m tells. tells (board_for m b) (board_for-good v.side m b board)) set each in
      let says = set_told parts set b told in
      (says.0, record { there = low; says = subst (λ ps. SetSays ps set b says.0) (sym is.shown) says.1 })

  -- what exact tables and a text make is a bundle
  pub is_bundle : IsBundle v
  is_bundle =
      let limits = first_limits v.side tables is.alike.count.some sides patterns in
      record {
        low = limits.0;
        high = limits.1;
        some_tables = subst (λ k. 0 < k) counted is.alike.count.some;
        few_tables = subst (λ k. k ≤ most_tables) counted is.alike.count.few;
        some_sets = is.are_sets.lines.some;
        few_sets = is.are_sets.few;
        there = subst (λ k. AllByRecursion (AllByRecursion (λ m. m.table < k)) v.sets) counted there;
        each = subst (λ ps. AllByRecursion (IsSetOf v.side ps) v.sets) (sym is.shown)
            (each_set v.side tables v.sets is.side (all_patterns v.side tables sides patterns) is.are_sets.lines.lines there is.disjoint);
        told = told;
      }

module _ (v : Inside) (text : List ℕ) (side : v.side ≡ first_side v.tables.items) (exact : AllByRecursion IsExactPart v.tables.items)
    (is : IsBundleOf v.tables.items text (bundle_with v.tables.items v.sets)) where
  -- the bundle that is stored with these sets is the one that the tables and the text make
  pub bundle_made : IsBundleOf v.tables.items text (bundle_shown v)
  bundle_made = record {
    alike = is.alike;
    side = side;
    shown = refl;
    are_sets = is.are_sets;
    there = is.there;
    apart = is.apart;
    disjoint = is.disjoint;
  }

  -- with the owners of all tiles and all transposed cells, the fields are those of a stored bundle
  pub stored_made : AreAllOwners v.side (parts_shown v.tables.items) v.owners → AreAllTransposed v.side v.transposed → IsStoredBundle v
  stored_made owners transposed = record {
    bundle = is_bundle v.tables.items text (bundle_shown v) exact bundle_made;
    tables = sides v.tables.items text (bundle_shown v) exact bundle_made;
    owners = owners;
    transposed = transposed;
  }
