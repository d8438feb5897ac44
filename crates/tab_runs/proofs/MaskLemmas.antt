-- The set of a run after one of its tiles has moved, and the cells to which it may move.
use Rattle.std.proofs.Common.{◌≡◌, ◌≢◌, ℕ, ◌-◌, ◌*◌, ◌^◌, ◌<◌, ◌≤◌, true, List, length, get_or, set, inl, inr, sym, ◌∙◌, ap, arith, get_or-set_same}
use Rattle.std.proofs.Common.{get_or-set_other, length-set}
use Rattle.std.specs.Prelude.{bit_and}
use Rattle.std.specs.Int.{bit_at}
use Rattle.std.specs.List.{AllByRecursion}
use Rattle.std.proofs.lemmas.Bool.{cases_eq, cases_lt, both_ways, false_from_ne_true}
use Rattle.std.proofs.lemmas.Nat.Bits.{bit_at_above}
use Rattle.puz_board.specs.Cells.{Adjacent, reverse_of}
use Rattle.puz_board.proofs.CellLemmas.{reverse_of-takes_back}
use Rattle.puz_board.specs.Masks.{IsMaskOf}
use Rattle.pat_place.specs.Patterns.{has}
use Rattle.pat_place.specs.Placements.{IsApart, IsFree}
use Rattle.puz_board.proofs.BitLemmas.{but_in, in_but, in_or_out}
use Rattle.pat_place.proofs.ListLemmas.{all_at, apart_at, at-has, has-at}

module _ (n : ℕ) (small : n * n ≤ 25) (p : List ℕ) (inside : AllByRecursion (λ c. c < n * n) p) (apart : IsApart p) (i f : ℕ) (low : i < length p)
    (mask less more : ℕ) (fits : less < 2 ^ 32)
    (is : IsMaskOf mask (λ c. has p c ≡ true)) (clear : bit_at less (get_or p i 0) ≡ 0)
    (same : (x : ℕ) → x < 32 → x ≢ get_or p i 0 → bit_at less x ≡ bit_at mask x)
    (here : bit_at more f ≡ 1) (others : (x : ℕ) → x ≢ f → bit_at more x ≡ bit_at less x) where
  -- the mask with a tile's cell taken out and the entered cell put in is that of the run after the move
  pub mask_moved : IsMaskOf more (λ c. has (set p i f) c ≡ true)
  mask_moved y = elim (cases_eq y f) [
    | inl e ↦ (
      λ h. has-at (set p i f) y i (let l = length-set p i f in omega arith) (get_or-set_same p i f 0 low ∙ sym e),
      λ h. ap (bit_at more) e ∙ here,
    )
    | inr ne ↦ (
      λ h.
          let was : bit_at less y ≡ 1 = sym (others y ne) ∙ h in
          let below : y < 32 = elim (cases_lt y 32) [ inl l ↦ l | inr l ↦ absurd (let z = bit_at_above less 32 y fits l in omega arith) ] in
          let far : y ≢ get_or p i 0 = (λ e. let z : bit_at less y ≡ 0 = ap (bit_at less) e ∙ clear in omega arith) in
          let k = at-has p y ((is y).0 (sym (same y below far) ∙ was)) in
          let ki : k.0 ≢ i = (λ e. far (sym k.2 ∙ ap (λ j. get_or p j 0) e)) in
          has-at (set p i f) y k.0 (let l = length-set p i f in let m : k.0 < length p = k.1 in omega arith) (get_or-set_other p i k.0 f 0 ki ∙ k.2),
      λ h.
          let k = at-has (set p i f) y h in
          let k_low : k.0 < length p = (let l = length-set p i f in let m : k.0 < length (set p i f) = k.1 in omega arith) in
          let ki : k.0 ≢ i = (λ e. ne (sym k.2 ∙ ap (λ j. get_or (set p i f) j 0) e ∙ get_or-set_same p i f 0 low)) in
          let at : get_or p k.0 0 ≡ y = sym (get_or-set_other p i k.0 f 0 ki) ∙ k.2 in
          let far : y ≢ get_or p i 0 = (λ e. ki (apart_at p apart k.0 i k_low low (at ∙ e))) in
          let below : y < 32 = (let l = all_at p k.0 inside k_low in omega arith) in
          others y ne ∙ same y below far ∙ (is y).1 (has-at p y k.0 k_low at),
    )
  ]

-- on a board of side 2 to 5, cells are beside each other both ways
pub adjacent_back : (n : ℕ) → 2 ≤ n → n ≤ 5 → (c d : ℕ) → c < n * n → Adjacent n c d → Adjacent n d c
adjacent_back n low high c d inside a = (inside, reverse_of a.1, reverse_of-takes_back a.1 n c d low high inside a.2)

-- the free cells beside a tile's
pub targets_are : (n : ℕ) (p : List ℕ) (cell near mask : ℕ) → near < 2 ^ 32 → mask < 2 ^ 32 → IsMaskOf near (Adjacent n cell)
    → IsMaskOf mask (λ c. has p c ≡ true)
    → IsMaskOf (bit_and near (2 ^ 32 - 1 - mask)) (λ f. IsFree n p f × Adjacent n cell f)
targets_are n p cell near mask fits also beside is f = (
  λ h.
      let parts = but_in near mask f fits also h in
      let a = (beside f).0 parts.0 in
      ((a.0, false_from_ne_true (has p f) (λ t. let one = (is f).1 t in let z = parts.1 in omega arith)), a),
  λ w. in_but near mask f fits also ((beside f).1 w.1) (elim (in_or_out mask f) [ inl i ↦ absurd (both_ways (has p f) w.0.1 ((is f).0 i)) | inr o ↦ o ]),
)
