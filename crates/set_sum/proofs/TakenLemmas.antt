-- The tiles that patterns have taken, as a mask.
use Rattle.std.proofs.Common.{◌≡◌, ◌≢◌, ℕ, ◌^◌, ◌<◌, ◌≤◌, ◌⊎◌, true, List, [], ◌∷◌, ◌++◌, inl, inr, sym, ◌∙◌, ap, arith}
use Rattle.std.specs.Prelude.{Any, bit_and, bit_or}
use Rattle.std.specs.Int.{bit_at, trailing_zeros, w32}
use Rattle.std.proofs.lemmas.Nat.{and_le_r}
use Rattle.std.proofs.lemmas.Nat.Bits.{bit_at-trailing_zeros, bit_at-zero}
use Rattle.puz_board.specs.Costs.{has}
use Rattle.puz_board.specs.Masks.{numbers_of}
use Rattle.puz_board.proofs.BitLemmas.{both_in, either_in, in_below, in_both, in_left, in_right}
use Rattle.pat_place.proofs.MaskLemmas.{has-numbers_below, in_numbers_below}
use Rattle.set_sum.specs.Sums.{AreDisjoint, HaveOverlap, HaveTwo, Overlap}
use Rattle.set_sum.proofs.AnyLemmas.{Any-cases, Any-either, Any-here, Any-later, Any-left, Any-none, Any-right, Any-weaker}

-- ---- one element more

module _ {X : Type 0} (R : X → X → Type 0) where
  -- two related elements of a list with one more are in the list, or one of the list is related to it
  pub two_push : (ps : List X) (q : X) → HaveTwo R (ps ++ q ∷ []) → HaveTwo R ps ⊎ Any (λ p. R p q) ps
  two_push [] q h = elim h [ inl some ↦ absurd (Any-none (R q) some) | inr more ↦ absurd more ]
  two_push (p ∷ ps) q h = elim h [
    | inl some ↦ elim (Any-either (R p) ps (q ∷ []) some) [
      | inl old ↦ inl (inl old)
      | inr new ↦ elim (Any-cases (R p) q [] new) [
        | inl meets ↦ inr (Any-here (λ p. R p q) p ps meets)
        | inr none ↦ absurd (Any-none (R p) none)
      ]
    ]
    | inr more ↦ elim (two_push ps q more) [
      | inl old ↦ inl (inr old)
      | inr new ↦ inr (Any-later (λ p. R p q) p ps new)
    ]
  ]

  -- an element related to one before it makes two of the list, whatever follows
  pub two_new : (ps : List X) (q : X) (rest : List X) → Any (λ p. R p q) ps → HaveTwo R (ps ++ q ∷ rest)
  two_new [] q rest h = absurd (Any-none (λ p. R p q) h)
  two_new (p ∷ ps) q rest h = elim (Any-cases (λ p. R p q) p ps h) [
    | inl meets ↦ inl (Any-right (R p) ps (q ∷ rest) (Any-here (R p) q rest meets))
    | inr later ↦ inr (two_new ps q rest later)
  ]

-- ---- the mask

abbrev HasTile : ℕ → List ℕ → Type 0
HasTile t p = has p t ≡ true

-- the patterns are disjoint, and the bits that are set are those of their tiles
pub record IsTaken (patterns : List (List ℕ)) (mask : ℕ) : Type 0 where
  pub disjoint : AreDisjoint patterns
  pub covers : (t : ℕ) → bit_at mask t ≡ 1 → Any (λ p. has p t ≡ true) patterns
  pub covered : (t : ℕ) → Any (λ p. has p t ≡ true) patterns → bit_at mask t ≡ 1

-- no tile is taken by no patterns at all
pub taken_none : IsTaken [] 0
taken_none = record {
  disjoint = λ h. h;
  covers = λ t set. absurd (let z = bit_at-zero t in omega arith);
  covered = λ t h. absurd (Any-none (HasTile t) h);
}

module _ (ps : List (List ℕ)) (mask m : ℕ) (q : List ℕ) (taken : IsTaken ps mask) (tiles : numbers_of m ≡ q) (fits : m < 2 ^ 32) where
  bit_of : (t : ℕ) → has q t ≡ true → bit_at m t ≡ 1
  bit_of t is_tile = (in_numbers_below 32 m t (ap (λ s. has s t) tiles ∙ is_tile)).1

  of_bit : (t : ℕ) → bit_at m t ≡ 1 → has q t ≡ true
  of_bit t set = sym (ap (λ s. has s t) tiles) ∙ has-numbers_below 32 m t (in_below m 32 t fits set) set

  -- a pattern that shares no tile with the taken ones is taken by joining its mask
  pub taken_more : bit_and mask m ≡ 0 → IsTaken (ps ++ q ∷ []) (bit_or mask m)
  taken_more none = record {
    disjoint = λ h. elim (two_push Overlap ps q h) [
      | inl old ↦ taken.disjoint old
      | inr new ↦
          let t : ℕ = new.4.0 in
          let one : bit_at mask t ≡ 1 = taken.covered t (new.0, new.1, new.2, new.3, new.4.1) in
          let both : bit_at (bit_and mask m) t ≡ 1 = in_both mask m t one (bit_of t new.4.2) in
          let z : bit_at (bit_and mask m) t ≡ 0 = ap (λ x. bit_at x t) none ∙ bit_at-zero t in
          omega arith
    ];
    covers = λ t set. elim (either_in mask m t set) [
      | inl old ↦ Any-left (HasTile t) ps (q ∷ []) (taken.covers t old)
      | inr new ↦ Any-right (HasTile t) ps (q ∷ []) (Any-here (HasTile t) q [] (of_bit t new))
    ];
    covered = λ t h. elim (Any-either (HasTile t) ps (q ∷ []) h) [
      | inl old ↦ in_left mask m t (taken.covered t old)
      | inr new ↦ elim (Any-cases (HasTile t) q [] new) [
        | inl is_tile ↦ in_right mask m t (bit_of t is_tile)
        | inr more ↦ absurd (Any-none (HasTile t) more)
      ]
    ];
  }

  -- a pattern that shares a tile with the taken ones makes the patterns overlap, whatever follows
  pub taken_meets : bit_and mask m ≢ 0 → (rest : List (List ℕ)) → HaveOverlap (ps ++ q ∷ rest)
  taken_meets some rest =
      let both : ℕ = bit_and mask m in
      let few : both ≤ m = and_le_r mask m in
      let found = bit_at-trailing_zeros w32 (bit_and mask m) (omega arith) (omega arith) in
      let t : ℕ = trailing_zeros w32 (bit_and mask m) in
      let parts = both_in mask m t found.1 in
      two_new Overlap ps q rest (Any-weaker (HasTile t) (λ p. Overlap p q) (λ p is_tile. (t, is_tile, of_bit t parts.1)) ps (taken.covers t parts.0))
