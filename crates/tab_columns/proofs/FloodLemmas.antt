-- Regions taken one after another from the free cells of a placement.
use Rattle.std.proofs.Common.{◌≡◌, ◌≢◌, ℕ, zero, suc, ◌+◌, ◌-◌, ◌*◌, ◌%◌, ◌^◌, ◌<◌, ◌≤◌, ◌⊎◌, List, [], ◌∷◌, length, Some, get_or, inl, inr, refl}
use Rattle.std.proofs.Common.{sym, ◌∙◌, ap, subst, arith, lit<, mod-eq_of_lt, set, replicate, get_or-set_same, get_or-set_other, length-set}
use Rattle.std.specs.Prelude.{bit_and, slice_get}
use Rattle.std.specs.Int.{bit_at, w32, trailing_zeros}
use Rattle.std.proofs.lemmas.Bool.{cases_eq, cases_lt}
use Rattle.std.proofs.lemmas.List.{get_or-replicate, length-replicate}
use Rattle.std.proofs.lemmas.Nat.{and_le_l, pow_pos}
use Rattle.std.proofs.Math.Nat.{mul-le-mul_right, pow-le-pow_right}
use Rattle.std.proofs.lemmas.Nat.Bits.{bit_at-lt, bit_at-zero, bit_at-pow_same, bit_at-pow_other, bit_at-trailing_zeros, same_from_bits}
use Rattle.puz_board.specs.Masks.{IsMaskOf}
use Rattle.puz_board.specs.Paths.{Reaches, here, onward}
use Rattle.puz_board.proofs.BitLemmas.{both_in, sub_le}
use Rattle.puz_board.proofs.CellLemmas.{few_cells}
use Rattle.pat_place.specs.Patterns.{IsPattern, ShownPattern}
use Rattle.pat_place.specs.Placements.{ShownPlacement, IsFree, IsPlacement}
use Rattle.pat_place.specs.Regions.{IsLeader}
use Rattle.pat_place.proofs.ListLemmas.{Some-one}
use Rattle.pat_place.proofs.SlotLemmas.{count_grows}
use Rattle.pat_place.proofs.SlotSteps.{IsRest, IsRest-start, IsRest-all, taken}
use Rattle.tab_lanes.specs.Floods.{AllMayGrow, IsReached}
use Rattle.tab_file.specs.Tables.{slot_count}
use Rattle.tab_columns.specs.Columns.{AreFree, AreOf, EachSlot, IsFirstCell, IsFirstRegion}
use Rattle.tab_rule.specs.Entries.{HasNoRegion}
use Rattle.tab_columns.specs.Moves.{IsRegion}
use Rattle.tab_columns.proofs.ColumnLemmas.{place_before}
use Rattle.tab_columns.proofs.OneEntryLemmas.{empty_region}

-- ---- the flooded mask of the least cell

no_bits : (mask : ℕ) → ((c : ℕ) → bit_at mask c ≡ 1 → ⊥) → mask ≡ 0
no_bits mask none = same_from_bits mask 0 (λ c. low c (none c) ∙ sym (bit_at-zero c))
  where
    low : (c : ℕ) → (bit_at mask c ≡ 1 → ⊥) → bit_at mask c ≡ 0
    low c far = let l = bit_at-lt mask c in omega arith

-- the power of two at the lowest bit of a mask is the mask of its first cell
pub first_cell_is : (mask k first : ℕ) → mask ≢ 0 → bit_at mask k ≡ 1 → ((x : ℕ) → x < k → bit_at mask x ≡ 0) → first ≡ 2 ^ k → IsFirstCell mask first
first_cell_is mask k first some one lowest is = record {
  none = λ gone. absurd (some gone);
  inside = λ c set. elim (cases_eq c k) [
    | inl e ↦ ap (bit_at mask) e ∙ one
    | inr ne ↦ absurd (let z = ap (λ m. bit_at m c) is ∙ bit_at-pow_other k c ne in omega arith)
  ];
  some = λ seed set below c.
      let same : k ≡ seed = elim (cases_lt k seed) [
        | inl l ↦ absurd (let z = below k l in omega arith)
        | inr l ↦ elim (cases_lt seed k) [ inl m ↦ absurd (let z = lowest seed m in omega arith) | inr m ↦ omega arith ]
      ] in (
        λ o. elim (cases_eq c k) [ inl e ↦ e ∙ same | inr ne ↦ absurd (let z = ap (λ m. bit_at m c) is ∙ bit_at-pow_other k c ne in omega arith) ],
        λ e. ap (bit_at first) (e ∙ sym same) ∙ ap (λ m. bit_at m k) is ∙ bit_at-pow_same k,
      );
}

-- a one shifted by less than 32 is that power of two, with nothing lost
pub shifted_one : (k : ℕ) → k < 32 → 1 * 2 ^ k % 2 ^ 32 ≡ 2 ^ k
shifted_one k l =
    let up : 2 ^ k ≤ 2 ^ 31 = pow-le-pow_right (lit< tt) (let m : k ≤ 31 = omega arith in m) in
    let fits : 1 * 2 ^ k < 2 ^ 32 = omega arith in
    mod-eq_of_lt fits ∙ (omega arith)

-- what is reached over free cells from the first cell that is left is the first region of what is left
pub first_region : (n free rest first region : ℕ) → IsFirstCell rest first → IsMaskOf region (IsReached n free first) → IsFirstRegion n free rest region
first_region n free rest first region cell is = record {
  none = λ gone. no_bits region (λ c one. let w = (is c).0 one in let z = ap (λ m. bit_at m w.0) (cell.none gone) ∙ bit_at-zero w.0 in let o = w.1 in
      omega arith);
  some = λ seed set lowest d. (
    λ one. let w = (is d).0 one in subst (λ c. Reaches n (λ x. bit_at free x ≡ 1) c d) ((cell.some seed set lowest w.0).0 w.1) w.2,
    λ r. (is d).1 (seed, (cell.some seed set lowest seed).1 (let e : seed ≡ seed = omega arith in e), r),
  );
}

reaches_free : (n free : ℕ) {c d : ℕ} → bit_at free c ≡ 1 → Reaches n (λ x. bit_at free x ≡ 1) c d → bit_at free d ≡ 1
reaches_free n free one here = one
reaches_free n free one (onward beside next path) = reaches_free n free next path

region_le : (n free rest region : ℕ) → rest < 2 ^ 32 → ((c : ℕ) → bit_at rest c ≡ 1 → bit_at free c ≡ 1) → IsFirstRegion n free rest region → region ≤ free
region_le n free rest region fits inside first = elim (cases_eq rest 0) [
  | inl gone ↦ (let e = first.none gone in omega arith)
  | inr some ↦
      let seed = bit_at-trailing_zeros w32 rest (omega arith) fits in
      sub_le region free (λ d one. reaches_free n free (inside (trailing_zeros w32 rest) seed.1) ((first.some (trailing_zeros w32 rest) seed.1 seed.2 d).0 one))
]

-- ---- slot after slot

-- the cells of the slots from this one on
abbrev pub AreStillLeft : ℕ → List ℕ → ℕ → ℕ → Type 0
AreStillLeft n cells rest slot = IsRest n cells rest slot ⊎ ((rest ≡ 0) × ((j : ℕ) → slot ≤ j → HasNoRegion n cells j))

none_left : (n : ℕ) (cells : List ℕ) (rest slot : ℕ) → IsRest n cells rest slot → rest ≡ 0 → (j : ℕ) → slot ≤ j → HasNoRegion n cells j
none_left n cells rest slot h empty j l c is =
    let low : j < slot = count_grows (IsLeader n cells) is.leader (n * n) j slot is.is_leader is.is_leader.0.0 is.below
    (IsRest-all n cells rest slot h empty) in
    omega arith

-- the first region of what is left is that of the next slot, and without it the cells of the slots behind are left
pub slot_taken : (v : ShownPlacement) → IsPattern v.pattern → IsPlacement v → (side free : ℕ) → side ≡ v.pattern.side
    → IsMaskOf free (IsFree v.pattern.side v.cells)
    → (rest slot : ℕ) → rest < 2 ^ 32 → AreStillLeft v.pattern.side v.cells rest slot → (region : ℕ) → region < 2 ^ 32 → IsFirstRegion side free rest region
    → IsRegion v.pattern.side v.cells slot region × AreStillLeft v.pattern.side v.cells (bit_and rest (2 ^ 32 - 1 - region)) (slot + 1)
slot_taken v good placed side free same is rest slot bits left region fits first = elim (cases_eq rest 0) [
  | inl gone ↦
      let none : (j : ℕ) → slot ≤ j → HasNoRegion v.pattern.side v.cells j =
      elim left [ inl h ↦ none_left v.pattern.side v.cells rest slot h gone | inr w ↦ w.1 ] in
      let empty : region ≡ 0 = first.none gone in
      let left_none : bit_and rest (2 ^ 32 - 1 - region) ≡ 0 = ap (λ m. bit_and m (2 ^ 32 - 1 - region)) gone ∙ and_zero (2 ^ 32 - 1 - region) in (
        subst (IsRegion v.pattern.side v.cells slot) (sym empty) (empty_region v.pattern.side v.cells slot (none slot (omega arith))),
        inr (left_none, λ j l. none j (omega arith)),
      )
  | inr some ↦
      let seed = bit_at-trailing_zeros w32 rest (omega arith) bits in
      let h : IsRest v.pattern.side v.cells rest slot = elim left [ inl h ↦ h | inr w ↦ absurd (some w.0) ] in
      let t = taken v good placed rest slot h side free same is (trailing_zeros w32 rest) seed.1 seed.2 region fits
      (first.some (trailing_zeros w32 rest) seed.1 seed.2) in
      let next : suc slot ≡ slot + 1 = omega arith in
      (t.slots, inl (subst (λ k. IsRest v.pattern.side v.cells (bit_and rest (2 ^ 32 - 1 - region)) k) next t.next))
]
  where
    and_zero : (m : ℕ) → bit_and 0 m ≡ 0
    and_zero m = let l = and_le_l 0 m in omega arith

-- ---- all placements of a block

few_bits : (p : ShownPattern) → IsPattern p → (m : ℕ) → m < 2 ^ (p.side * p.side) → m < 2 ^ 32
few_bits p pat m l = let few = few_cells p.side pat.low pat.high in
    let up : 2 ^ (p.side * p.side) ≤ 2 ^ 32 = pow-le-pow_right (lit< tt) (let k : p.side * p.side ≤ 32 = omega arith in k) in omega arith

pub record AreTaken (p : ShownPattern) (placements : List ShownPlacement) (slot : ℕ) (free rest masks : List ℕ) : Type 0 where
  pub left : (row : ℕ) (v : ShownPlacement) → row < length placements → slice_get placements row ≡ Some v → AreStillLeft p.side v.cells (get_or rest row 0) slot
  pub each : (row j : ℕ) (v : ShownPlacement) → row < length placements → slice_get placements row ≡ Some v → j < slot
      → IsRegion p.side v.cells j (get_or masks (row * slot_count p + j) 0)
  pub inside : (row c : ℕ) → row < 256 → bit_at (get_or rest row 0) c ≡ 1 → bit_at (get_or free row 0) c ≡ 1

-- one placement more
pub AreFree-start : (placements : List ShownPlacement) → AreFree placements 0 (replicate 256 0)
AreFree-start placements = record {
  len = length-replicate {A = ℕ} 256 0;
  each = λ row v l is. absurd (omega arith);
  behind = λ row past l. get_or-replicate {A = ℕ} 256 row 0 0 l;
}

-- with the free cells of one placement put in, the column has those of one placement more
pub AreFree-more : (placements : List ShownPlacement) (count : ℕ) (column : List ℕ) (v : ShownPlacement) (mask : ℕ) → count < 256
    → slice_get placements count ≡ Some v
    → IsMaskOf mask (IsFree v.pattern.side v.cells) → mask < 2 ^ (v.pattern.side * v.pattern.side) → AreFree placements count column
    → AreFree placements (count + 1) (set column count mask)
AreFree-more placements count column v mask low is cells fits are = record {
  len = length-set column count mask ∙ are.len;
  each = λ row u l also. elim (cases_eq row count) [
    | inl e ↦
        let same : v ≡ u = Some-one v u (sym is ∙ ap (slice_get placements) (sym e) ∙ also) in
        let here : mask ≡ get_or (set column count mask) row 0 = sym (get_or-set_same column count mask 0 (let n = are.len in omega arith))
        ∙ ap (λ k. get_or (set column count mask) k 0) (sym e) in
        subst (λ m. IsMaskOf m (IsFree u.pattern.side u.cells) × (m < 2 ^ (u.pattern.side * u.pattern.side))) here
        (subst (λ w. IsMaskOf mask (IsFree w.pattern.side w.cells) × (mask < 2 ^ (w.pattern.side * w.pattern.side))) same (cells, fits))
    | inr ne ↦ subst (λ m. IsMaskOf m (IsFree u.pattern.side u.cells) × (m < 2 ^ (u.pattern.side * u.pattern.side)))
        (sym (get_or-set_other column count row mask 0 ne)) (are.each row u (omega arith) also)
  ];
  behind = λ row past l. get_or-set_other column count row mask 0 (λ e. omega arith) ∙ are.behind row (omega arith) l;
}

-- the place of a slot in a row of a block is within the column
pub place_within : (width slot row : ℕ) → width ≤ 8 → slot < width → row < 256 → row * width + slot < 2048
place_within width slot row few low l = let up : (row + 1) * width ≤ 256 * width = mul-le-mul_right width (let m : row + 1 ≤ 256 = omega arith in
    m) in omega arith

-- the mask of one placement more in the column of a slot
module _ (masks old regions : List ℕ) (width slot row : ℕ) (low : slot < width) (within : row * width + slot < length masks)
    (here : (r : ℕ) → r < row → get_or masks (r * width + slot) 0 ≡ get_or regions r 0)
    (others : (r j : ℕ) → j < width → j ≢ slot → get_or masks (r * width + j) 0 ≡ get_or old (r * width + j) 0) where
  abbrev put : List ℕ
  put = set masks (row * width + slot) (get_or regions row 0)

  -- in the column of masks, the rows up to the one that is put in have their region at the slot
  pub put-here : (r : ℕ) → r < row + 1 → get_or (set masks (row * width + slot) (get_or regions row 0)) (r * width + slot) 0 ≡ get_or regions r 0
  put-here r l = elim (cases_eq r row) [
    | inl e ↦ ap (λ k. get_or put (k * width + slot) 0) e ∙ get_or-set_same masks (row * width + slot) (get_or regions row 0) 0 within
        ∙ ap (λ k. get_or regions k 0) (sym e)
    | inr ne ↦ get_or-set_other masks (row * width + slot) (r * width + slot) (get_or regions row 0) 0
        (λ e. let b = place_before r row slot width (omega arith) low in omega arith) ∙ here r (omega arith)
  ]

  -- putting in a mask for one slot leaves all other slots of the rows as they were
  pub put-others : (r j : ℕ) → j < width → j ≢ slot
      → get_or (set masks (row * width + slot) (get_or regions row 0)) (r * width + j) 0 ≡ get_or old (r * width + j) 0
  put-others r j l ne = get_or-set_other masks (row * width + slot) (r * width + j) (get_or regions row 0) 0 apart ∙ others r j l ne
    where
      apart : r * width + j ≢ row * width + slot
      apart e = elim (cases_lt r row) [
        | inl before ↦ let b = place_before r row j width before l in omega arith
        | inr past ↦ elim (cases_eq r row) [
          | inl same ↦ ne (let f : r * width ≡ row * width = ap (λ k. k * width) same in omega arith)
          | inr far ↦ let b = place_before row r slot width (omega arith) low in omega arith
        ]
      ]

-- the masks of the board behind the placements too
pub free_grows : (p : ShownPattern) (placements : List ShownPlacement) (free : List ℕ) → AreOf p placements
    → AreFree placements (length placements) free → (row : ℕ) → row < 256 → get_or free row 0 < 2 ^ (p.side * p.side)
free_grows p placements free of are row l = elim (cases_lt row (length placements)) [
  | inl low ↦
      let v = get_or_some placements row low in
      subst (λ n. get_or free row 0 < 2 ^ (n * n)) (ap (λ q. q.side) (of row v.0 v.1).0) (are.each row v.0 low v.1).1
  | inr past ↦ let empty = are.behind row past l in let some = pow_pos (p.side * p.side) in omega arith
]
  where
    get_or_some : (vs : List ShownPlacement) (i : ℕ) → i < length vs → (v : ShownPlacement) × (slice_get vs i ≡ Some v)
    get_or_some [] i l = absurd (omega arith)
    get_or_some (v ∷ vs) zero l = (v, refl)
    get_or_some (v ∷ vs) (suc i) l = get_or_some vs i (omega arith)

-- the masks of what is left may grow over the free cells, in all rows of the block
pub AreTaken-grow : (p : ShownPattern) (placements : List ShownPlacement) (slot : ℕ) (free rest masks : List ℕ) → AreOf p placements
    → AreFree placements (length placements) free → length rest ≡ 256
    → AreTaken p placements slot free rest masks → AllMayGrow p.side rest free
AreTaken-grow p placements slot free rest masks of are long taken = record {
  lengths = long ∙ sym are.len;
  each = λ i from l. record {
    on_board = free_grows p placements free of are i (omega arith);
    inside = λ c one. taken.inside i c (omega arith) one;
  };
}

module _ (p : ShownPattern) (pat : IsPattern p) (placements : List ShownPlacement) (few : length placements ≤ 256) (of : AreOf p placements)
    (free : List ℕ) (are : AreFree placements (length placements) free) where
  -- with no slot done, all free cells of each placement are left
  pub AreTaken-start : (masks : List ℕ) → AreTaken p placements 0 free free masks
  AreTaken-start masks = record {
    left = λ row v l is.
        let same = ap (λ q. q.side) (of row v is).0 in
        let cells = are.each row v l is in
        inl (subst (λ n. IsRest n v.cells (get_or free row 0) 0) same (IsRest-start v.pattern.side v.cells (get_or free row 0) (bits row l) cells.0));
    each = λ row j v l is low. absurd (omega arith);
    inside = λ row c l one. one;
  }
    where
      bits : (row : ℕ) → row < length placements → get_or free row 0 < 2 ^ 32
      bits row l = few_bits p pat (get_or free row 0) (free_grows p placements free of are row (omega arith))

  -- with the first regions put in for one slot and taken out of what is left, that slot is done
  pub AreTaken-more : (slot : ℕ) (rest masks regions next new : List ℕ) → slot < slot_count p → AreTaken p placements slot free rest masks
      → ((row : ℕ) → row < 256 → IsFirstRegion p.side (get_or free row 0) (get_or rest row 0) (get_or regions row 0))
      → ((row : ℕ) → row < 256 → get_or new (row * slot_count p + slot) 0 ≡ get_or regions row 0)
      → ((row j : ℕ) → j < slot_count p → j ≢ slot → get_or new (row * slot_count p + j) 0 ≡ get_or masks (row * slot_count p + j) 0)
      → ((row : ℕ) → row < 256 → get_or next row 0 ≡ bit_and (get_or rest row 0) (2 ^ 32 - 1 - get_or regions row 0))
      → AreTaken p placements (slot + 1) free next new
  AreTaken-more slot rest masks regions next new low is_taken firsts put_here others out = record {
    left = λ row v l is. subst (λ m. AreStillLeft p.side v.cells m (slot + 1)) (sym (out row (omega arith))) (of_row row v l is).1;
    each = λ row j v l is lower. elim (cases_eq j slot) [
      | inl e ↦ subst (λ k. IsRegion p.side v.cells k (get_or new (row * slot_count p + k) 0)) (sym e)
          (subst (IsRegion p.side v.cells slot) (sym (put_here row (omega arith))) (of_row row v l is).0)
      | inr ne ↦ subst (IsRegion p.side v.cells j) (sym (others row j (omega arith) ne)) (is_taken.each row j v l is (omega arith))
    ];
    inside = λ row c l one. is_taken.inside row c l (both_in (get_or rest row 0) (2 ^ 32 - 1 - get_or regions row 0) c
        (ap (λ m. bit_at m c) (sym (out row l)) ∙ one)).0;
  }
    where
      of_row : (row : ℕ) (v : ShownPlacement) → row < length placements → slice_get placements row ≡ Some v
          → IsRegion p.side v.cells slot (get_or regions row 0)
          × AreStillLeft p.side v.cells (bit_and (get_or rest row 0) (2 ^ 32 - 1 - get_or regions row 0)) (slot + 1)
      of_row row v l is =
          let same = (of row v is).0 in
          let side = ap (λ q. q.side) same in
          let in_block : row < 256 = omega arith in
          let whole : get_or free row 0 < 2 ^ 32 = few_bits p pat (get_or free row 0) (free_grows p placements free of are row in_block) in
          let part = sub_le (get_or rest row 0) (get_or free row 0) (λ c one. is_taken.inside row c in_block one) in
          let fits : get_or rest row 0 < 2 ^ 32 = omega arith in
          let small = region_le p.side (get_or free row 0) (get_or rest row 0) (get_or regions row 0) fits
          (λ c one. is_taken.inside row c in_block one) (firsts row in_block) in
          let bits : get_or regions row 0 < 2 ^ 32 = omega arith in
          let found = slot_taken v (subst IsPattern (sym same) pat) (of row v is).1 p.side (get_or free row 0) (sym side) (are.each row v l is).0
          (get_or rest row 0) slot fits
          (subst (λ n. AreStillLeft n v.cells (get_or rest row 0) slot) (sym side) (is_taken.left row v l is)) (get_or regions row 0) bits
          (firsts row in_block) in (
            subst (λ n. IsRegion n v.cells slot (get_or regions row 0)) side found.0,
            subst (λ n. AreStillLeft n v.cells (bit_and (get_or rest row 0) (2 ^ 32 - 1 - get_or regions row 0)) (slot + 1)) side found.1,
          )

  -- with all slots done, the column has the mask of each slot's region
  pub AreTaken-all : (slot : ℕ) (rest masks : List ℕ) → slot_count p ≤ slot → AreTaken p placements slot free rest masks
      → EachSlot p placements (IsRegion p.side) (length placements) masks
  AreTaken-all slot rest masks all taken row j v l is low = taken.each row j v l is (omega arith)
