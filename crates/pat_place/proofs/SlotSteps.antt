-- Regions taken one after another from the free cells, by their least cells.
use Rattle.std.proofs.Common.{◌≡◌, ◌≢◌, ℕ, zero, suc, ◌-◌, ◌*◌, ◌^◌, ◌<◌, ◌≤◌, true, List, [], ◌∷◌, ◌++◌, length, get_or, inl, inr, refl, sym, ◌∙◌}
use Rattle.std.proofs.Common.{ap, subst, arith, lit<, ◌↔◌}
use Rattle.std.specs.Prelude.{bit_and}
use Rattle.std.specs.Int.{bit_at}
use Rattle.std.specs.List.{AllByRecursion}
use Rattle.std.proofs.lemmas.Bool.{cases_eq, cases_lt, cases_Bool, both_ways}
use Rattle.std.proofs.lemmas.List.{get_or_append_left, get_or_at, length_push}
use Rattle.std.proofs.lemmas.Nat.{and_le_l, pow_pos}
use Rattle.std.proofs.Math.Nat.{pow-le-pow_right}
use Rattle.std.proofs.lemmas.Nat.Bits.{bit_at_ones, bit_at_ones_above, bit_at-zero}
use Rattle.puz_board.proofs.CellLemmas.{by_side}
use Rattle.puz_board.specs.Masks.{IsMaskOf}
use Rattle.pat_place.specs.Patterns.{has, width, most_tiles, IsPattern}
use Rattle.pat_place.specs.Placements.{IsFree, IsApart, ShownPlacement, IsPlacement}
use Rattle.pat_place.specs.Regions.{Reaches, here, onward, Joins, IsLeader, IsCount, IsSlot}
use Rattle.puz_board.proofs.BitLemmas.{IsIn, in_or_out, but_in, in_but}
use Rattle.pat_place.proofs.JoinLemmas.{Joins-trans, Joins-free, Joins-sym}
use Rattle.pat_place.proofs.SlotLemmas.{count_same, count_place}
use Rattle.pat_place.proofs.WidthLemmas.{slot_within}

-- ---- the free cells

-- all cells of the board but the occupied ones make the mask of the free cells
pub free_is : (n occupied : ℕ) (cells : List ℕ) (count : ℕ) → count ≡ n * n → count < 32 → occupied < 2 ^ 32 → IsMaskOf occupied (λ c. has cells c ≡ true)
    → IsMaskOf (bit_and (2 ^ count - 1) (2 ^ 32 - 1 - occupied)) (IsFree n cells)
free_is n occupied cells count e small fits is x = (
  λ h.
      let parts = but_in (2 ^ count - 1) occupied x low fits h in (
        elim (cases_lt x count) [ inl l ↦ omega arith | inr l ↦ absurd (let z = bit_at_ones_above count x l in let one = parts.0 in omega arith) ],
        elim (cases_Bool (has cells x)) [ inl t ↦ absurd (let one = (is x).1 t in let z = parts.1 in omega arith) | inr f ↦ f ],
      ),
  λ free.
      let inside : x < count = let l = free.0 in omega arith in
      in_but (2 ^ count - 1) occupied x low fits (bit_at_ones count x inside)
      (elim (in_or_out occupied x) [ inl i ↦ absurd (both_ways (has cells x) free.1 ((is x).0 i)) | inr o ↦ o ]),
)
  where
    low : 2 ^ count - 1 < 2 ^ 32
    low = let up : 2 ^ count ≤ 2 ^ 31 = pow-le-pow_right (lit< tt) (let l : count ≤ 31 = omega arith in l) in omega arith

-- what a mask has in common with all cells of the board has no bit beyond the board
pub free_within : (n occupied count : ℕ) → count ≡ n * n → bit_and (2 ^ count - 1) occupied < 2 ^ (n * n)
free_within n occupied count e = let l = and_le_l (2 ^ count - 1) occupied in let p = pow_pos count in
    let same : 2 ^ count ≡ 2 ^ (n * n) = ap (λ k. 2 ^ k) e in omega arith

-- ---- counts

module _ (Q : ℕ → Type 0) where
  -- where no number from m on has the property, the count below a later number is the same
  pub count_skip : (m x j : ℕ) → m ≤ x → IsCount Q m j → ((l : ℕ) → m ≤ l → l < x → ¬ Q l) → IsCount Q x j
  count_skip m zero j le a none = subst (λ y. IsCount Q y j) (let e : m ≡ 0 = omega arith in e) a
  count_skip m (suc x) j le a none = elim (cases_eq m (suc x)) [
    | inl e ↦ subst (λ y. IsCount Q y j) e a
    | inr ne ↦ inr (none x (omega arith) (omega arith), count_skip m x j (omega arith) a (λ l low high. none l low (omega arith)))
  ]

-- ---- the cells that are left, once the regions of all leaders below start are taken

pub record IsRest (n : ℕ) (cells : List ℕ) (rest j : ℕ) : Type 0 where
  pub start : ℕ
  pub within : start ≤ n * n
  pub count : IsCount (IsLeader n cells) start j
  pub bits : rest < 2 ^ 32
  pub is : (c : ℕ) → IsIn rest c ↔ (IsFree n cells c × ((l : ℕ) → Joins n cells c l → start ≤ l))

-- before a region is taken, all free cells are left
pub IsRest-start : (n : ℕ) (cells : List ℕ) (free : ℕ) → free < 2 ^ 32 → IsMaskOf free (IsFree n cells) → IsRest n cells free 0
IsRest-start n cells free fits is = record {
  start = 0;
  within = omega arith;
  count = refl;
  bits = fits;
  is = (λ c. (λ h. ((is c).0 h, λ l r. omega arith), λ w. (is c).1 w.0));
}

-- a path through cells of one kind is a path through cells of a kind that includes it
pub same_paths : (n : ℕ) (A B : ℕ → Type 0) → ((x : ℕ) → A x → B x) → {c d : ℕ} → Reaches n A c d → Reaches n B c d
same_paths n A B to here = here
same_paths n A B to (onward {d = d} a o r) = onward a (to d o) (same_paths n A B to r)

-- a region of a mask of the free cells is a region
joins_is : (n : ℕ) (cells : List ℕ) (free region seed : ℕ) → IsMaskOf free (IsFree n cells) → IsMaskOf region (Reaches n (IsIn free) seed)
    → IsMaskOf region (Joins n cells seed)
joins_is n cells free region seed is reached x = (
  λ h. same_paths n (IsIn free) (IsFree n cells) (λ y. (is y).0) ((reached x).0 h),
  λ r. (reached x).1 (same_paths n (IsFree n cells) (IsIn free) (λ y. (is y).1) r),
)

module _ (n : ℕ) (low : 2 ≤ n) (high : n ≤ 5) (cells : List ℕ) (rest j : ℕ) (h : IsRest n cells rest j) (seed : ℕ) (set : IsIn rest seed)
    (lowest : (x : ℕ) → x < seed → bit_at rest x ≡ 0) where
  seed_free : IsFree n cells seed
  seed_free = ((h.is seed).0 set).0

  in_rest : (d : ℕ) → Joins n cells seed d → IsIn rest d
  in_rest d r = (h.is d).1 (Joins-free n cells seed_free r, λ l s. ((h.is seed).0 set).1 l (Joins-trans n cells r s))

  at_least : (d : ℕ) → IsIn rest d → seed ≤ d
  at_least d i = elim (cases_lt d seed) [ inl l ↦ absurd (let z = lowest d l in omega arith) | inr l ↦ l ]

  seed_leader : IsLeader n cells seed
  seed_leader = (seed_free, λ d r. at_least d (in_rest d r))

  seed_count : IsCount (IsLeader n cells) seed j
  seed_count = count_skip (IsLeader n cells) h.start seed j (((h.is seed).0 set).1 seed here) h.count
      (λ l a b leader. let i = (h.is l).1 (leader.0, λ d r. let m = leader.1 d r in omega arith) in let c = at_least l i in omega arith)

  -- the cells of its region have slot j
  joined_slot : (c : ℕ) → Joins n cells seed c → IsSlot n cells c j
  joined_slot c r = record {
    free = Joins-free n cells seed_free r;
    leader = seed;
    joined = Joins-sym n cells low high seed_free r;
    is_leader = seed_leader;
    below = seed_count;
  }

  -- and no other cells have it
  slot_joined : (c : ℕ) → IsSlot n cells c j → Joins n cells seed c
  slot_joined c s =
      let same : s.leader ≡ seed = count_same (IsLeader n cells) s.leader seed j s.is_leader seed_leader s.below seed_count in
      subst (λ l. Joins n cells l c) same (Joins-sym n cells low high s.free s.joined)

  slot_small : AllByRecursion (λ c. c < n * n) cells → IsApart cells → j < width n (length cells)
  slot_small inside apart = slot_within n low high cells seed j inside apart (joined_slot seed here)

module _ (n : ℕ) (low : 2 ≤ n) (high : n ≤ 5) (cells : List ℕ) (rest j : ℕ) (h : IsRest n cells rest j) (seed : ℕ) (set : IsIn rest seed)
    (lowest : (x : ℕ) → x < seed → bit_at rest x ≡ 0) (region : ℕ) (fits : region < 2 ^ 32) (is : IsMaskOf region (Joins n cells seed)) where
  first_free : IsFree n cells seed
  first_free = seed_free n low high cells rest j h seed set lowest

  IsRest-more : IsRest n cells (bit_and rest (2 ^ 32 - 1 - region)) (suc j)
  IsRest-more = record {
    start = suc seed;
    within = (let l = first_free.0 in omega arith);
    count = inl (seed_leader n low high cells rest j h seed set lowest, j, refl, seed_count n low high cells rest j h seed set lowest);
    bits = (let l = and_le_l rest (2 ^ 32 - 1 - region) in let f = h.bits in omega arith);
    is = (λ c. (
      λ i.
          let parts = but_in rest region c h.bits fits i in
          let free = ((h.is c).0 parts.0).0 in (
            free,
            λ l r.
                let other : l ≢ seed = λ e. (let one = (is c).1 (Joins-sym n cells low high free (subst (λ x. Joins n cells c x) e r)) in
                let z = parts.1 in omega arith) in
                let in_l = (h.is l).1 (Joins-free n cells free r, λ m s. ((h.is c).0 parts.0).1 m (Joins-trans n cells r s)) in
                let le = at_least n low high cells rest j h seed set lowest l in_l in
                omega arith,
          ),
      λ w.
          let after_start : (l : ℕ) → Joins n cells c l → h.start ≤ l = λ l r. (let a = w.1 l r in let b = ((h.is seed).0 set).1 seed here in omega arith) in
          in_but rest region c h.bits fits ((h.is c).1 (w.0, after_start)) (elim (in_or_out region c) [
            | inl i ↦ absurd (let bad = w.1 seed (Joins-sym n cells low high first_free ((is c).0 i)) in omega arith)
            | inr o ↦ o
          ]),
    ));
  }

  rest_smaller : bit_and rest (2 ^ 32 - 1 - region) < rest
  rest_smaller = elim (cases_eq (bit_and rest (2 ^ 32 - 1 - region)) rest) [
    | inl e ↦ absurd (let parts = but_in rest region seed h.bits fits (ap (λ m. bit_at m seed) e ∙ set) in let one = (is seed).1 here in
        let z = parts.1 in omega arith)
    | inr ne ↦ (let l = and_le_l rest (2 ^ 32 - 1 - region) in omega arith)
  ]

  -- a cell that is left and not of the region is left again
  still_left : (c : ℕ) → IsIn rest c → bit_at region c ≡ 0 → IsIn (bit_and rest (2 ^ 32 - 1 - region)) c
  still_left c i o = in_but rest region c h.bits fits i o

-- the region of the least cell that is left, as slot j
pub record IsTaken (p : ShownPlacement) (rest j region : ℕ) : Type 0 where
  pub slots : (c : ℕ) → IsIn region c ↔ IsSlot p.pattern.side p.cells c j
  pub below : j < width p.pattern.side (length p.cells)
  pub next : IsRest p.pattern.side p.cells (bit_and rest (2 ^ 32 - 1 - region)) (suc j)
  pub smaller : bit_and rest (2 ^ 32 - 1 - region) < rest
  pub left : (c : ℕ) → IsIn rest c → bit_at region c ≡ 0 → IsIn (bit_and rest (2 ^ 32 - 1 - region)) c

-- the region of the least cell that is left is the region of the next slot
pub taken : (p : ShownPlacement) → IsPattern p.pattern → IsPlacement p → (rest j : ℕ) → IsRest p.pattern.side p.cells rest j
    → (side free : ℕ) → side ≡ p.pattern.side → IsMaskOf free (IsFree p.pattern.side p.cells)
    → (seed : ℕ) → IsIn rest seed → ((x : ℕ) → x < seed → bit_at rest x ≡ 0)
    → (region : ℕ) → region < 2 ^ 32 → IsMaskOf region (Reaches side (IsIn free) seed) → IsTaken p rest j region
taken p good placed rest j h side free same is seed set lowest region fits reached =
    let n = p.pattern.side in
    let joined = joins_is n p.cells free region seed is (subst (λ k. IsMaskOf region (Reaches k (IsIn free) seed)) same reached) in
    record {
      slots = (λ c. (
        λ i. joined_slot n good.low good.high p.cells rest j h seed set lowest c ((joined c).0 i),
        λ s. (joined c).1 (slot_joined n good.low good.high p.cells rest j h seed set lowest c s),
      ));
      below = slot_small n good.low good.high p.cells rest j h seed set lowest placed.inside placed.apart;
      next = IsRest-more n good.low good.high p.cells rest j h seed set lowest region fits joined;
      smaller = rest_smaller n good.low good.high p.cells rest j h seed set lowest region fits joined;
      left = still_left n good.low good.high p.cells rest j h seed set lowest region fits joined;
    }

-- a cell that is reached from the least one has slot j
pub met : (p : ShownPlacement) → IsPattern p.pattern → IsPlacement p → (rest j : ℕ) → IsRest p.pattern.side p.cells rest j
    → (side free : ℕ) → side ≡ p.pattern.side → IsMaskOf free (IsFree p.pattern.side p.cells)
    → (seed : ℕ) → IsIn rest seed → ((x : ℕ) → x < seed → bit_at rest x ≡ 0)
    → (c : ℕ) → Reaches side (IsIn free) seed c → IsSlot p.pattern.side p.cells c j × (j < width p.pattern.side (length p.cells))
met p good placed rest j h side free same is seed set lowest c r =
    let n = p.pattern.side in (
      joined_slot n good.low good.high p.cells rest j h seed set lowest c
          (same_paths n (IsIn free) (IsFree n p.cells) (λ y. (is y).0) (subst (λ k. Reaches k (IsIn free) seed c) same r)),
      slot_small n good.low good.high p.cells rest j h seed set lowest placed.inside placed.apart,
    )

-- where no cell is left, all leaders are counted
pub IsRest-all : (n : ℕ) (cells : List ℕ) (rest j : ℕ) → IsRest n cells rest j → rest ≡ 0 → IsCount (IsLeader n cells) (n * n) j
IsRest-all n cells rest j h none = count_skip (IsLeader n cells) h.start (n * n) j h.within h.count
    (λ l a b leader. let i = (h.is l).1 (leader.0, λ d r. let m = leader.1 d r in omega arith) in
    let z = ap (λ m. bit_at m l) none ∙ bit_at-zero l in omega arith)

-- ---- the list of the regions

pub record AreListed (n : ℕ) (cells masks : List ℕ) (rest : ℕ) : Type 0 where
  pub left : IsRest n cells rest (length masks)
  pub each : (j c : ℕ) → j < length masks → IsIn (get_or masks j 0) c ↔ IsSlot n cells c j

-- the region of the next slot, put behind the list of masks, makes a list of one slot more
pub AreListed-more : (n : ℕ) (cells masks : List ℕ) (rest region next : ℕ) → AreListed n cells masks rest
    → ((c : ℕ) → IsIn region c ↔ IsSlot n cells c (length masks)) → IsRest n cells next (suc (length masks)) → AreListed n cells (masks ++ region ∷ []) next
AreListed-more n cells masks rest region next h is left = record {
  left = subst (λ k. IsRest n cells next k) (sym count) left;
  each = (λ j c l. elim (cases_eq j (length masks)) [
    | inl e ↦ subst (λ m. IsIn m c ↔ IsSlot n cells c j) (sym (get_or_at masks region [] 0 j (sym e)))
        (subst (λ k. IsIn region c ↔ IsSlot n cells c k) (sym e) (is c))
    | inr ne ↦ (let before : j < length masks = let k = count in omega arith in
        subst (λ m. IsIn m c ↔ IsSlot n cells c j) (sym (get_or_append_left masks (region ∷ []) 0 j before)) (h.each j c before))
  ]);
}
  where
    count : length (masks ++ region ∷ []) ≡ suc (length masks)
    count = length_push masks region ∙ (omega arith)

-- there are no more of them than W
pub count_within : (n : ℕ) → 2 ≤ n → n ≤ 5 → (cells : List ℕ) (j : ℕ) → AllByRecursion (λ c. c < n * n) cells → IsApart cells
    → IsCount (IsLeader n cells) (n * n) j → j ≤ width n (length cells)
count_within n low high cells zero inside apart a = omega arith
count_within n low high cells (suc i) inside apart a =
    let last = count_place (IsLeader n cells) (n * n) (suc i) i a (omega arith) in
    let l = slot_within n low high cells last.0 i inside apart
    (record { free = last.2.0; leader = last.0; joined = here; is_leader = last.2; below = last.3 }) in
    omega arith

-- W is at most 8
width_at : (n : ℕ) → 2 ≤ n → n ≤ 5 → (k : ℕ) → 0 < k → k ≤ most_tiles n → width n k ≤ 8
width_at = by_side (λ n. (k : ℕ) → 0 < k → k ≤ most_tiles n → width n k ≤ 8) (λ k some few. omega arith) (λ k some few. omega arith)
    (λ k some few. omega arith) (λ k some few. omega arith)

-- the width of a placement is at most 8
pub width_le : (p : ShownPlacement) → IsPattern p.pattern → IsPlacement p → width p.pattern.side (length p.cells) ≤ 8
width_le p good is = subst (λ k. width p.pattern.side k ≤ 8) (sym is.size)
    (width_at p.pattern.side good.low good.high (length p.pattern.tiles) good.some good.most)
