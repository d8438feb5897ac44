-- The slots of a placement's free cells, and the table of them, set by set.
use Rattle.std.proofs.Common.{◌≡◌, ℕ, ◌+◌, ◌*◌, ◌<◌, ◌≤◌, true, List, [], ◌∷◌, ◌++◌, length, get_or, set, inl, inr, sym, ◌∙◌, ap, subst, arith}
use Rattle.std.proofs.Common.{length-append, get_or-set_same, get_or-set_other}
use Rattle.std.specs.Int.{bit_at}
use Rattle.std.proofs.lemmas.Bool.{cases_eq}
use Rattle.std.proofs.lemmas.List.{get_or_append_left, get_or-append-add, get_or_at, length_push}
use Rattle.std.proofs.Math.Nat.{mul-le-mul_right}
use Rattle.puz_board.specs.Masks.{IsMaskOf}
use Rattle.pat_place.specs.Patterns.{has}
use Rattle.pat_place.specs.Regions.{AreRegions, IsLeader, IsSlot}
use Rattle.pat_place.specs.StoredSlots.{AreAllSlots, AreSlots, AreSlotsFrom}
use Rattle.pat_place.proofs.SetLemmas.{same_of_mask, slot_same}
use Rattle.pat_place.proofs.SlotLemmas.{count_grows, slot_one}

-- ---- the slots of the cells before this one

-- the slot of each free cell below this one is in the list at the cell's place
abbrev pub AreSlotsUpTo : ℕ → List ℕ → ℕ → List ℕ → Type 0
AreSlotsUpTo n p count slots = (c j : ℕ) → c < count → IsSlot n p c j → get_or slots c 0 ≡ j

module _ (n : ℕ) (low : 2 ≤ n) (high : n ≤ 5) (p regions : List ℕ) (are : AreRegions n p regions) (cell : ℕ) (slots : List ℕ)
    (before : AreSlotsUpTo n p cell slots) where
  -- the slot of the next cell is put down
  pub slots_set : (j : ℕ) → j < length regions → bit_at (get_or regions j 0) cell ≡ 1 → cell < length slots → AreSlotsUpTo n p (cell + 1) (set slots cell j)
  slots_set j l bit room c k within is = elim (cases_eq c cell) [
    | inl e ↦
        ap (λ x. get_or (set slots cell j) x 0) e ∙
        get_or-set_same slots cell j 0 room ∙
        slot_one n low high p cell j k ((are.each j cell l).0 bit) (subst (λ x. IsSlot n p x k) e is)
    | inr ne ↦ get_or-set_other slots cell c j 0 ne ∙ before c k (omega arith) is
  ]

  -- the next cell isn't free
  pub slots_skip : ((j : ℕ) → j < length regions → bit_at (get_or regions j 0) cell ≡ 1 → ⊥) → AreSlotsUpTo n p (cell + 1) slots
  slots_skip none c k within is = elim (cases_eq c cell) [
    | inl e ↦
        let at : IsSlot n p cell k = subst (λ x. IsSlot n p x k) e is in
        let l : k < length regions = count_grows (IsLeader n p) at.leader (n * n) k (length regions) at.is_leader at.is_leader.0.0 at.below are.all in
        absurd (none k l ((are.each k cell l).1 at))
    | inr ne ↦ before c k (omega arith) is
  ]

-- ---- the table

-- in a table with n² places for each set, the place for a set and a cell is within
pub slot_room : (n len number cell : ℕ) → number < len → cell < n * n → number * (n * n) + cell < len * (n * n)
slot_room n len number cell low inside = let a : (number + 1) * (n * n) ≤ len * (n * n) =
    mul-le-mul_right (n * n) (let l : number + 1 ≤ len = omega arith in l) in omega arith

-- one set more
pub slots_more : (n : ℕ) (masks slots p row : List ℕ) (mask : ℕ) → AreAllSlots n masks slots → IsMaskOf mask (λ c. has p c ≡ true)
    → length row ≡ n * n → AreSlots n p row → AreAllSlots n (masks ++ mask ∷ []) (slots ++ row)
slots_more n masks slots p row mask are is size_is filled = record { size = size; each = each }
  where
    size : length (slots ++ row) ≡ length (masks ++ mask ∷ []) * (n * n)
    size =
        let a = length-append slots row in
        let b = are.size in
        let e : length (masks ++ mask ∷ []) * (n * n) ≡ (length masks + 1) * (n * n) = ap (λ k. k * (n * n)) (length_push masks mask) in
        omega arith

    each : (number : ℕ) (q : List ℕ) → number < length (masks ++ mask ∷ []) → IsMaskOf (get_or (masks ++ mask ∷ []) number 0) (λ c. has q c ≡ true)
        → AreSlotsFrom n q (slots ++ row) (number * (n * n))
    each number q low also c j in_slot = elim (cases_eq number (length masks)) [
      | inl e ↦
          let at : number * (n * n) + c ≡ length slots + c = (let s = are.size in
          let m : number * (n * n) ≡ length masks * (n * n) = ap (λ k. k * (n * n)) e in omega arith) in
          let same = same_of_mask mask q p (subst (λ k. IsMaskOf k (λ c. has q c ≡ true)) (get_or_at masks mask [] 0 number (sym e)) also) is in
          ap (λ k. get_or (slots ++ row) k 0) at ∙ get_or-append-add slots row c 0 ∙ filled c j (slot_same n q p same c j in_slot)
      | inr ne ↦
          let before : number < length masks = (let k = length_push masks mask in omega arith) in
          let room : number * (n * n) + c < length slots = (let r = slot_room n (length masks) number c before in_slot.free.0 in let s = are.size in
          omega arith) in
          get_or_append_left slots row 0 (number * (n * n) + c) room ∙
          are.each number q before (subst (λ k. IsMaskOf k (λ c. has q c ≡ true)) (get_or_append_left masks (mask ∷ []) 0 number before) also) c j in_slot
    ]
