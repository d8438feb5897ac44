-- Slots: each free cell has one, its region's cells share it, and no other region has it.
use Rattle.std.proofs.Common.{◌≡◌, ℕ, zero, suc, ◌*◌, ◌<◌, ◌≤◌, ◌⊎◌, List, inl, inr, refl, sym, ◌∙◌, ap, subst, arith}
use Rattle.std.proofs.lemmas.Bool.{cases_eq, cases_lt}
use Rattle.pat_place.specs.Placements.{IsFree}
use Rattle.pat_place.specs.Regions.{here, Joins, IsLeader, IsCount, IsSlot}
use Rattle.pat_place.proofs.JoinLemmas.{Decided, joins_decided, free_decided, Joins-trans, Joins-free, Joins-sym}

-- the least number below m with a decided property
pub least_below : (Q : ℕ → Type 0) → ((k : ℕ) → Decided (Q k)) → (m : ℕ) → ((k : ℕ) × (k < m) × Q k × ((j : ℕ) → Q j → k ≤ j)) ⊎ ((k : ℕ) → k < m → ¬ Q k)
least_below Q dec zero = inr (λ k l q. omega arith)
least_below Q dec (suc m) = elim (least_below Q dec m) [
  | inl h ↦ inl (h.0, let l : h.0 < m = h.1 in omega arith, h.2, h.3)
  | inr none ↦ elim (dec m) [
    | inl q ↦ inl (m, omega arith, q, λ j qj. elim (cases_lt j m) [ inl l ↦ absurd (none j l qj) | inr l ↦ l ])
    | inr n ↦ inr (λ k l q. elim (cases_eq k m) [ inl e ↦ n (subst Q e q) | inr ne ↦ none k (omega arith) q ])
  ]
]

-- ---- counting

module _ (Q : ℕ → Type 0) where
  -- the numbers below m that have a property have one count alone
  pub count_one : (m i j : ℕ) → IsCount Q m i → IsCount Q m j → i ≡ j
  count_one zero i j a b = a ∙ sym b
  count_one (suc m) i j a b = elim a [
    | inl x ↦ elim b [ inl y ↦ x.2 ∙ ap suc (count_one m x.1 y.1 x.3 y.3) ∙ sym y.2 | inr y ↦ absurd (y.0 x.0) ]
    | inr x ↦ elim b [ inl y ↦ absurd (x.0 y.0) | inr y ↦ count_one m i j x.1 y.1 ]
  ]

  -- where it is decided which numbers have a property, those below m have a count
  pub count_of : ((k : ℕ) → Decided (Q k)) → (m : ℕ) → (j : ℕ) × IsCount Q m j
  count_of dec zero = (0, refl)
  count_of dec (suc m) = let r = count_of dec m in elim (dec m) [ inl q ↦ (suc r.0, inl (q, r.0, refl, r.1)) | inr none ↦ (r.0, inr (none, r.1)) ]

  -- the i-th of them
  pub count_place : (m j i : ℕ) → IsCount Q m j → i < j → (x : ℕ) × (x < m) × Q x × IsCount Q x i
  count_place zero j i a l = absurd (let e : j ≡ 0 = a in omega arith)
  count_place (suc m) j i a l = elim a [
    | inl x ↦ elim (cases_eq i x.1) [
      | inl e ↦ (m, omega arith, x.0, subst (λ y. IsCount Q m y) (sym e) x.3)
      | inr ne ↦ let less : i < x.1 = (let e : j ≡ suc x.1 = x.2 in omega arith) in let r = count_place m x.1 i x.3 less in
          (r.0, let w : r.0 < m = r.1 in omega arith, r.2, r.3)
    ]
    | inr x ↦ let r = count_place m j i x.1 l in (r.0, let w : r.0 < m = r.1 in omega arith, r.2, r.3)
  ]

  -- below a number with the property are fewer of them than below any greater number
  pub count_grows : (x m i j : ℕ) → Q x → x < m → IsCount Q x i → IsCount Q m j → i < j
  count_grows x zero i j q l a b = absurd (omega arith)
  count_grows x (suc m) i j q l a b = elim b [
    | inl y ↦ elim (cases_eq x m) [
      | inl e ↦ let s : i ≡ y.1 = count_one m i y.1 (subst (λ x. IsCount Q x i) e a) y.3 in let w : j ≡ suc y.1 = y.2 in omega arith
      | inr ne ↦ let s : i < y.1 = count_grows x m i y.1 q (omega arith) a y.3 in let w : j ≡ suc y.1 = y.2 in omega arith
    ]
    | inr y ↦ elim (cases_eq x m) [
      | inl e ↦ absurd (y.0 (subst Q e q))
      | inr ne ↦ count_grows x m i j q (omega arith) a y.1
    ]
  ]

  -- two of them with one count are one
  pub count_same : (x y i : ℕ) → Q x → Q y → IsCount Q x i → IsCount Q y i → x ≡ y
  count_same x y i p q a b = elim (cases_eq x y) [
    | inl e ↦ e
    | inr ne ↦ elim (cases_lt x y) [
      | inl l ↦ absurd (let w : i < i = count_grows x y i i p l a b in omega arith)
      | inr l ↦ absurd (let w : i < i = count_grows y x i i q (omega arith) b a in omega arith)
    ]
  ]

-- ---- leaders

module _ (n : ℕ) (low : 2 ≤ n) (high : n ≤ 5) (p : List ℕ) where
  -- each free cell is joined to a least cell of its region
  pub leader_of : (c : ℕ) → IsFree n p c → (l : ℕ) × Joins n p c l × IsLeader n p l
  leader_of c free = elim (least_below (Joins n p c) (joins_decided n p c) (n * n)) [
    | inl h ↦ (h.0, h.2, (Joins-free n p free h.2, λ d r. h.3 d (Joins-trans n p h.2 r)))
    | inr none ↦ absurd (none c free.0 here)
  ]

  -- a free cell is joined to one leader alone
  pub leader_one : (c k l : ℕ) → IsFree n p c → Joins n p c k → IsLeader n p k → Joins n p c l → IsLeader n p l → k ≡ l
  leader_one c k l free to_k is_k to_l is_l =
      let a : k ≤ l = is_k.1 l (Joins-trans n p (Joins-sym n p low high free to_k) to_l) in
      let b : l ≤ k = is_l.1 k (Joins-trans n p (Joins-sym n p low high free to_l) to_k) in
      omega arith

  -- whether a cell is a leader, the least of its region, is decided
  pub leader_decided : (c : ℕ) → Decided (IsLeader n p c)
  leader_decided c = elim (free_decided n p c) [
    | inr none ↦ inr (λ l. none l.0)
    | inl free ↦ let l = leader_of c free in elim (cases_eq l.0 c) [
      | inl e ↦ inl (subst (λ x. IsLeader n p x) e l.2)
      | inr ne ↦ inr (λ is. ne (leader_one c l.0 c free l.1 l.2 here is))
    ]
  ]

  -- each free cell of a board of side 2 to 5 has a slot
  pub slot_some : (c : ℕ) → IsFree n p c → (j : ℕ) × IsSlot n p c j
  slot_some c free = let l = leader_of c free in let j = count_of (IsLeader n p) leader_decided l.0 in
      (j.0, record { free = free; leader = l.0; joined = l.1; is_leader = l.2; below = j.1 })

  -- no cell has two different slots
  pub slot_one : (c i j : ℕ) → IsSlot n p c i → IsSlot n p c j → i ≡ j
  slot_one c i j a b =
      let e : a.leader ≡ b.leader = leader_one c a.leader b.leader a.free a.joined a.is_leader b.joined b.is_leader in
      count_one (IsLeader n p) b.leader i j (subst (λ x. IsCount (IsLeader n p) x i) e a.below) b.below

  -- cells of one slot are cells of one region, and back
  pub slot_region : (c d j : ℕ) → IsSlot n p c j → IsSlot n p d j → Joins n p c d
  slot_region c d j a b =
      let e : a.leader ≡ b.leader = count_same (IsLeader n p) a.leader b.leader j a.is_leader b.is_leader a.below b.below in
      Joins-trans n p a.joined (subst (λ x. Joins n p x d) (sym e) (Joins-sym n p low high b.free b.joined))

  -- a cell that is joined to a cell of a slot has this slot as well
  pub region_slot : (c d j : ℕ) → Joins n p c d → IsSlot n p c j → IsSlot n p d j
  region_slot c d j r a = record {
    free = Joins-free n p a.free r;
    leader = a.leader;
    joined = Joins-trans n p (Joins-sym n p low high a.free r) a.joined;
    is_leader = a.is_leader;
    below = a.below;
  }
