-- What tables have in common with others that have the same patterns: all that a set text asks for.
use Rattle.std.proofs.Common.{◌≡◌, ℕ, zero, suc, ◌<◌, cond, List, [], ◌∷◌, length, get_or, map, take, inl, inr, refl, sym, ◌∙◌, ap, ap₂, subst, arith, Some}
use Rattle.std.proofs.lemmas.List.{length-map}
use Rattle.std.specs.List.{AllByRecursion}
use Rattle.puz_board.specs.Transposing.{transposed_tiles}
use Rattle.pat_place.specs.Patterns.{ShownPattern}
use Rattle.set_sum.specs.Members.{AreOnePattern, pattern_of, patterns_of_set}
use Rattle.set_sum.specs.Parts.{no_part, part_pattern, parts_shown}
use Rattle.set_sum.specs.Reading.{IsFirstWith, NamesOverlap, NamesTwice, first_side}
use Rattle.set_sum.specs.OverPatterns.{tables_with}
use Rattle.set_sum.specs.Sums.{HaveOverlap, HaveTwo}
use Rattle.set_sum.specs.declared.members.Member.{Member}
use Rattle.set_sum.specs.declared.parts.Part.{Part}
use Rattle.set_sum.proofs.AnyLemmas.{Any-weaker}
use Rattle.set_sum.proofs.ListLemmas.{all_weaker}
use Rattle.set_sum.proofs.PartLemmas.{shown_tiles}

-- ---- a list and what it maps to

module _ {X Y : Type 0} (f : X → Y) where
  -- what holds of all that a list maps to holds of its elements by what they map to
  pub all_mapped : (P : Y → Type 0) (xs : List X) → AllByRecursion P (map f xs) → AllByRecursion (λ x. P (f x)) xs
  all_mapped P [] all = tt
  all_mapped P (x ∷ xs) all = (all.0, all_mapped P xs all.1)

  -- the place of the first that has something among what a list maps to is that of the first element that maps to such
  pub first_mapped : (Has : Y → Type 0) (xs : List X) (i : ℕ) → IsFirstWith Has (map f xs) i → IsFirstWith (λ x. Has (f x)) xs i
  first_mapped Has [] i first = absurd (let e : _ = first.is_item in cc)
  first_mapped Has (x ∷ xs) zero first = record { item = x; is_item = refl; has = subst Has (let e : Some (f x) ≡ Some first.item = first.is_item in cc) first.has; first = tt }
  first_mapped Has (x ∷ xs) (suc i) first =
      let rest = first_mapped Has xs i (record { item = first.item; is_item = first.is_item; has = first.has; first = first.first.1 }) in
      record { item = rest.item; is_item = rest.is_item; has = rest.has; first = (first.first.0, rest.first) }

-- the first that has one thing is the first that has another, where these come together
first_by : {X : Type 0} (P Q : X → Type 0) → ((x : X) → P x → Q x) → ((x : X) → Q x → P x) → (xs : List X) (i : ℕ) → IsFirstWith P xs i → IsFirstWith Q xs i
first_by P Q to from xs i first = record {
  item = first.item;
  is_item = first.is_item;
  has = to first.item first.has;
  first = all_weaker (λ x. ¬ P x) (λ x. ¬ Q x) (λ x none has. none (from x has)) (take i xs) first.first;
}

two_weaker : {X : Type 0} (R S : X → X → Type 0) → ((x y : X) → R x y → S x y) → (xs : List X) → HaveTwo R xs → HaveTwo S xs
two_weaker R S f [] two = two
two_weaker R S f (x ∷ xs) (inl some) = inl (Any-weaker (R x) (S x) (f x) xs some)
two_weaker R S f (x ∷ xs) (inr two) = inr (two_weaker R S f xs two)

-- ---- some tables with patterns

-- the tables that are made with patterns have these
pub have_with : (patterns : List ShownPattern) → map part_pattern (tables_with patterns) ≡ patterns
have_with [] = refl
have_with (p ∷ patterns) = ap (λ ps. p ∷ ps) (have_with patterns)

side_with : (tables : List Part) → first_side (tables_with (map part_pattern tables)) ≡ first_side tables
side_with [] = refl
side_with (t ∷ tables) = refl

tiles_with : (tables : List Part) (k : ℕ) → (get_or (parts_shown (tables_with (map part_pattern tables))) k no_part).tiles
    ≡ (get_or (parts_shown tables) k no_part).tiles
tiles_with [] k = refl
tiles_with (t ∷ tables) zero = shown_tiles t
tiles_with (t ∷ tables) (suc k) = tiles_with tables k

module _ (tables : List Part) where
  abbrev others : List Part
  others = tables_with (map part_pattern tables)

  pattern_with : (m : Member) → pattern_of (first_side others) (parts_shown others) m ≡ pattern_of (first_side tables) (parts_shown tables) m
  pattern_with m =
      ap (λ n. pattern_of n (parts_shown others) m) (side_with tables) ∙
      ap (λ tiles. cond m.is_transposed (transposed_tiles (first_side tables) tiles) tiles) (tiles_with tables m.table)

  twice_to : (set : List Member) → NamesTwice others set → NamesTwice tables set
  twice_to set two = two_weaker (AreOnePattern (first_side others) (parts_shown others)) (AreOnePattern (first_side tables) (parts_shown tables))
      (λ m o one. record { transposed = one.transposed; same = sym (pattern_with m) ∙ one.same ∙ pattern_with o }) set two

  twice_from : (set : List Member) → NamesTwice tables set → NamesTwice others set
  twice_from set two = two_weaker (AreOnePattern (first_side tables) (parts_shown tables)) (AreOnePattern (first_side others) (parts_shown others))
      (λ m o one. record { transposed = one.transposed; same = pattern_with m ∙ one.same ∙ sym (pattern_with o) }) set two

  patterns_with : (set : List Member) → patterns_of_set (first_side others) (parts_shown others) set
      ≡ patterns_of_set (first_side tables) (parts_shown tables) set
  patterns_with set = λ i. map (λ m. pattern_with m i) set

  over_to : (set : List Member) → NamesOverlap others set → NamesOverlap tables set
  over_to set two = subst HaveOverlap (patterns_with set) two

  over_from : (set : List Member) → NamesOverlap tables set → NamesOverlap others set
  over_from set two = subst HaveOverlap (sym (patterns_with set)) two

-- ---- the pattern of a member

tiles_read : (patterns : List ShownPattern) (k : ℕ) (p : ShownPattern) → k < length patterns → p ≡ get_or patterns k p
    → (get_or (parts_shown (tables_with patterns)) k no_part).tiles ≡ p.tiles
tiles_read [] k p low is = absurd (omega arith)
tiles_read (q ∷ patterns) zero p low is = sym (ap (λ r. r.tiles) is)
tiles_read (q ∷ patterns) (suc k) p low is = tiles_read patterns k p (omega arith) is

side_read : (n : ℕ) (patterns : List ShownPattern) (k : ℕ) (p : ShownPattern) → k < length patterns → p ≡ get_or patterns k p
    → AllByRecursion (λ t. (part_pattern t).side ≡ n) (tables_with patterns) → p.side ≡ n
side_read n [] k p low is all = absurd (omega arith)
side_read n (q ∷ patterns) zero p low is all = ap (λ r. r.side) is ∙ all.0
side_read n (q ∷ patterns) (suc k) p low is all = side_read n patterns k p (omega arith) is all.1

-- the pattern of a member is that of its table, or that pattern transposed
pub pattern_at : (patterns : List ShownPattern) (m : Member) (p : ShownPattern) → m.table < length patterns → p ≡ get_or patterns m.table p
    → AllByRecursion (λ t. (part_pattern t).side ≡ first_side (tables_with patterns)) (tables_with patterns)
    → cond m.is_transposed (transposed_tiles p.side p.tiles) p.tiles ≡ pattern_of (first_side (tables_with patterns)) (parts_shown (tables_with patterns)) m
pattern_at patterns m p low is all =
    ap₂ (λ n tiles. cond m.is_transposed (transposed_tiles n tiles) tiles) (side_read (first_side (tables_with patterns)) patterns m.table p low is all)
    (sym (tiles_read patterns m.table p low is))

-- ---- tables with these patterns

module _ (tables : List Part) (patterns : List ShownPattern) (of_tables : map part_pattern tables ≡ patterns) where
  -- there are as many of them
  pub counted : length tables ≡ length patterns
  counted = sym (length-map tables part_pattern) ∙ ap length of_tables

  module _ (sets : List (List Member)) where
    -- where no set names a pattern twice over some tables with the patterns, none does over these
    pub none_twice : AllByRecursion (λ set. ¬ NamesTwice (tables_with patterns) set) sets → AllByRecursion (λ set. ¬ NamesTwice tables set) sets
    none_twice none = all_weaker (λ set. ¬ NamesTwice (others tables) set) (λ set. ¬ NamesTwice tables set)
        (λ set not two. not (twice_from tables set two)) sets
        (subst (λ ps. AllByRecursion (λ set. ¬ NamesTwice (tables_with ps) set) sets) (sym of_tables) none)

    -- where no two members of a set share a tile over some tables with the patterns, none do over these
    pub none_over : AllByRecursion (λ set. ¬ NamesOverlap (tables_with patterns) set) sets → AllByRecursion (λ set. ¬ NamesOverlap tables set) sets
    none_over none = all_weaker (λ set. ¬ NamesOverlap (others tables) set) (λ set. ¬ NamesOverlap tables set)
        (λ set not two. not (over_from tables set two)) sets
        (subst (λ ps. AllByRecursion (λ set. ¬ NamesOverlap (tables_with ps) set) sets) (sym of_tables) none)

    -- the first set that names a pattern twice over some tables with the patterns is the first over these
    pub first_twice : (i : ℕ) → IsFirstWith (NamesTwice (tables_with patterns)) sets i → IsFirstWith (NamesTwice tables) sets i
    first_twice i first = first_by (NamesTwice (others tables)) (NamesTwice tables) (twice_to tables) (twice_from tables) sets i
        (subst (λ ps. IsFirstWith (NamesTwice (tables_with ps)) sets i) (sym of_tables) first)

    -- the first set two of whose members share a tile over some tables with the patterns is the first over these
    pub first_over : (i : ℕ) → IsFirstWith (NamesOverlap (tables_with patterns)) sets i → IsFirstWith (NamesOverlap tables) sets i
    first_over i first = first_by (NamesOverlap (others tables)) (NamesOverlap tables) (over_to tables) (over_from tables) sets i
        (subst (λ ps. IsFirstWith (NamesOverlap (tables_with ps)) sets i) (sym of_tables) first)

  -- the side of the pattern that was read first is that of the first table
  pub first_side-have : (p : ShownPattern) → 0 < length tables → p ≡ get_or patterns 0 p → p.side ≡ first_side tables
  first_side-have p some is = at tables (subst (λ ps. p ≡ get_or ps 0 p) (sym of_tables) is) some
    where
      at : (ts : List Part) → p ≡ get_or (map part_pattern ts) 0 p → 0 < length ts → p.side ≡ first_side ts
      at [] first some = absurd (omega arith)
      at (t ∷ ts) first some = ap (λ q. q.side) first
