-- Members of one pattern where one of them is transposed.
use Rattle.std.proofs.Common.{◌≡◌, ◌≢◌, ℕ, suc, ◌+◌, ◌^◌, ◌<◌, false, List, [], ◌∷◌, length, get_or, take, drop, inl, inr, sym, ◌∙◌, ap, subst}
use Rattle.std.specs.Prelude.{Any}
use Rattle.std.proofs.lemmas.Bool.{both_ways}
use Rattle.std.proofs.lemmas.List.{take_more}
use Rattle.puz_board.specs.Masks.{numbers_of}
use Rattle.pat_place.proofs.MaskLemmas.{numbers_of-one}
use Rattle.set_sum.specs.Members.{AreOnePattern, pattern_of}
use Rattle.set_sum.specs.Parts.{parts_shown}
use Rattle.set_sum.specs.Reading.{NamesTwice, first_side}
use Rattle.set_sum.specs.Sums.{HaveTwo}
use Rattle.set_sum.specs.declared.members.Member.{Member}
use Rattle.set_sum.specs.declared.parts.Part.{Part}
use Rattle.set_sum.proofs.AnyLemmas.{Any-cases, Any-either, Any-here, Any-none, Any-right}
use Rattle.set_sum.proofs.ListLemmas.{split_at}
use Rattle.set_sum.proofs.TakenLemmas.{two_new, two_push}

module _ (tables : List Part) where
  -- two members have one pattern, and one of them is transposed
  abbrev pub AreOne : Member → Member → Type 0
  AreOne = AreOnePattern (first_side tables) (parts_shown tables)

  -- the tiles of a member's own pattern, on the side of the first table
  abbrev pub pattern : Member → List ℕ
  pattern = pattern_of (first_side tables) (parts_shown tables)

  -- ---- two members, by their masks

  module _ (m o : Member) (a b : ℕ) (tiles : numbers_of a ≡ pattern m) (others : numbers_of b ≡ pattern o) where
    -- two members whose patterns have one mask have one pattern
    pub one_mask : a ≡ b → pattern m ≡ pattern o
    one_mask same = sym tiles ∙ ap numbers_of same ∙ others

    -- two members whose patterns have different masks don't have one pattern
    pub other_mask : a < 2 ^ 32 → b < 2 ^ 32 → a ≢ b → ¬ AreOne m o
    other_mask fits also differ h = differ (numbers_of-one a b fits also (tiles ∙ h.same ∙ sym others))

  -- two members neither of which is transposed are no transposed pair of one pattern
  pub plain_pair : (m o : Member) → m.is_transposed ≡ false → o.is_transposed ≡ false → ¬ AreOne m o
  plain_pair m o plain also h = elim h.transposed [ inl one ↦ both_ways m.is_transposed plain one | inr one ↦ both_ways o.is_transposed also one ]

  -- ---- one member and those of a set

  module _ (set : List Member) (i : ℕ) (d : Member) (low : i < length set) where
    -- a member of a set that has one pattern with another is one of the set that has
    pub meets_here : (o : Member) → AreOne (get_or set i d) o → Any (λ m. AreOne m o) set
    meets_here o h = subst (Any (λ m. AreOne m o)) (sym (split_at set i d low)) (
        Any-right (λ m. AreOne m o) (take i set) (get_or set i d ∷ drop (suc i) set) (Any-here (λ m. AreOne m o) (get_or set i d) (drop (suc i) set) h))

    -- where neither the members so far nor the next one has the pattern of another, none of them all has
    pub meets_none : (o : Member) → (¬ Any (λ m. AreOne m o) (take i set)) → (¬ AreOne (get_or set i d) o) → ¬ Any (λ m. AreOne m o) (take (i + 1) set)
    meets_none o before here any = elim (Any-either (λ m. AreOne m o) (take i set) (get_or set i d ∷ [])
        (subst (Any (λ m. AreOne m o)) (take_more set i d low) any)) [
          | inl old ↦ before old
          | inr new ↦ elim (Any-cases (λ m. AreOne m o) (get_or set i d) [] new) [ inl h ↦ here h | inr none ↦ Any-none (λ m. AreOne m o) none ]
        ]

    -- ---- two of a set

    -- where a member has one pattern with one before it, once transposed, the set names it twice
    pub twice_here : Any (λ m. AreOne m (get_or set i d)) (take i set) → NamesTwice tables set
    twice_here any = subst (HaveTwo AreOne) (sym (split_at set i d low)) (two_new AreOne (take i set) (get_or set i d) (drop (suc i) set) any)

    -- where no two members so far have one pattern and the next has none of theirs, no two still have
    pub twice_none : (¬ NamesTwice tables (take i set)) → (¬ Any (λ m. AreOne m (get_or set i d)) (take i set)) → ¬ NamesTwice tables (take (i + 1) set)
    twice_none before here two = elim (two_push AreOne (take i set) (get_or set i d) (subst (HaveTwo AreOne) (take_more set i d low) two)) [
      | inl old ↦ before old
      | inr new ↦ here new
    ]
