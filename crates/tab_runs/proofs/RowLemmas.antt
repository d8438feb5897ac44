-- Rows depend on the set of cells alone, and their places are different.
use Rattle.std.proofs.Common.{◌≡◌, ℕ, ◌+◌, ◌-◌, ◌*◌, ◌<◌, ◌≤◌, Bool, true, not, List, length, filter, get_or, inl, inr, refl, sym, ◌∙◌, ap, subst}
use Rattle.std.proofs.Common.{arith, ltb, ltb-true}
use Rattle.std.specs.List.{AllByRecursion, range_with_len}
use Rattle.std.proofs.lemmas.Bool.{cases_eq, cases_lt}
use Rattle.std.proofs.Math.Nat.{mul-le-mul_right}
use Rattle.puz_board.proofs.CellLemmas.{by_side}
use Rattle.pat_place.specs.Patterns.{IsPattern, ShownPattern, most_tiles, width}
use Rattle.pat_place.specs.Placements.{IsApart, IsFree}
use Rattle.pat_place.specs.Regions.{IsSlot}
use Rattle.pat_place.proofs.CountLemmas.{holds_at}
use Rattle.pat_place.proofs.SetLemmas.{SameCells, free_same, same_back, slot_same}
use Rattle.pat_place.proofs.SlotLemmas.{slot_some}
use Rattle.pat_place.proofs.WidthLemmas.{slot_within}
use Rattle.tab_file.specs.Tables.{slot_count}
use Rattle.tab_runs.specs.Rows.{IsOpen, IsRow, listed_below, place_in_run, row_length}
use Rattle.tab_runs.specs.RunPlaces.{IsRun, most_run_entries, run_length}
use Rattle.tab_runs.specs.Runs.{free_below, with_last}
use Rattle.tab_runs.proofs.RunLemmas.{free-with_last, open_free, placed_last, same_with_last, with_last-free}
use Rattle.tab_runs.proofs.RunRanks.{free_at, free_below-low, free_below-one}

-- ---- the order of the cells is all the same

-- two runs with the same set of cells have as many free cells below each cell
pub free_below-same : (p q : List ℕ) → SameCells p q → (c : ℕ) → free_below p c ≡ free_below q c
unfolding free_below
free_below-same p q same c = λ i. length (filter (λ d. not (same d i)) (range_with_len 0 c))

open_same : (n : ℕ) (p q : List ℕ) → SameCells p q → (x c : ℕ) → IsOpen n p x c → IsOpen n q x c
open_same n p q same x c o = record { last = free_same n p q same c o.last; cell = free_same n p q same x o.cell; other = o.other }

-- a row for a run is one for every run with the same set of cells
pub row_same : (n k : ℕ) (p q : List ℕ) → SameCells p q → (x : ℕ) (row : List ℕ) → IsRow n k p x row → IsRow n k q x row
row_same n k p q same x row is = record {
  size = is.size;
  place = λ c j o s.
      ap (λ i. get_or row i 0) (sym (free_below-same (with_last p x) (with_last q x) (same_with_last p q x same) c)) ∙
      is.place c j (open_same n q p (same_back p q same) x c o)
      (slot_same n (with_last q c) (with_last p c) (same_with_last q p c (same_back p q same)) x j s) ∙
      ap (λ l. 1 + l * width n k + j) (free_below-same p q same c);
}

-- ---- places are different

above : (a b w j k : ℕ) → j < w → k < w → a < b → a * w + j ≡ b * w + k → ⊥
above a b w j k l m less e = let h : (a + 1) * w ≤ b * w = mul-le-mul_right w (let s : a + 1 ≤ b = omega arith in s) in omega arith

-- a number is cut in one way into a multiple of a width and a rest below it
pub parts_one : (a b w j k : ℕ) → j < w → k < w → a * w + j ≡ b * w + k → (a ≡ b) × (j ≡ k)
parts_one a b w j k l m e = elim (cases_eq a b) [
  | inl same ↦ (same, let h : a * w ≡ b * w = ap (λ x. x * w) same in omega arith)
  | inr ne ↦ elim (cases_lt a b) [
    | inl less ↦ absurd (above a b w j k l m less e)
    | inr more ↦ absurd (above b a w k j m l (omega arith) (sym e))
  ]
]

-- two slots of a run with one place are one slot of one free cell
pub place_one : (n w : ℕ) (p : List ℕ) (c d j k : ℕ) → j < w → k < w → IsFree n p c → IsFree n p d → place_in_run w p c j ≡ place_in_run w p d k
    → (c ≡ d) × (j ≡ k)
place_one n w p c d j k l m free also e =
    let parts = parts_one (free_below p c) (free_below p d) w j k l m (omega arith) in
    (free_below-one n p c d free also parts.0, parts.1)

-- each slot of a free cell has a place within the bytes of its run
pub place_low : (n w : ℕ) (p : List ℕ) (c j : ℕ) → AllByRecursion (λ x. x < n * n) p → IsApart p → IsFree n p c → j < w
    → place_in_run w p c j < 1 + run_length n p * w
place_low n w p c j inside apart free l =
    let low = free_below-low n p c inside apart free in
    let h : (free_below p c + 1) * w ≤ run_length n p * w = mul-le-mul_right w (let s : free_below p c + 1 ≤ run_length n p = omega arith in s) in
    omega arith

-- ---- a run has few entries

abbrev test : ℕ → ℕ → Bool
test n k = ltb ((n * n - k) * width n (k + 1)) (most_run_entries + 1)

at_side : (n : ℕ) → 2 ≤ n → n ≤ 5 → (k : ℕ) → k + 1 ≤ most_tiles n → test n k ≡ true
at_side = by_side (λ n. (k : ℕ) → k + 1 ≤ most_tiles n → test n k ≡ true)
    (λ k l. holds_at (test 2) 3 k refl (omega arith))
    (λ k l. holds_at (test 3) 8 k refl (omega arith))
    (λ k l. holds_at (test 4) 8 k refl (omega arith))
    (λ k l. holds_at (test 5) 6 k refl (omega arith))

-- a run of any pattern has at most 140 entries
pub few_entries : (p : ShownPattern) → IsPattern p → (cells : List ℕ) → IsRun p cells → run_length p.side cells * slot_count p ≤ most_run_entries
few_entries p pat cells run =
    let small = ltb-true ((p.side * p.side - length cells) * width p.side (length cells + 1)) (most_run_entries + 1)
    (at_side p.side pat.low pat.high (length cells) (let m = pat.most in let s = run.size in omega arith)) in
    let e : run_length p.side cells * width p.side (length cells + 1) ≡ run_length p.side cells * slot_count p =
    ap (λ k. run_length p.side cells * width p.side k) run.size in
    omega arith

-- ---- what a row holds

module _ (p : ShownPattern) (pat : IsPattern p) (cells : List ℕ) (run : IsRun p cells) where
  -- with the last tile in a free cell, each slot is below the pattern's number of slots
  pub slot_low : (c x j : ℕ) → IsFree p.side cells c → IsSlot p.side (with_last cells c) x j → j < slot_count p
  slot_low c x j free is =
      let place = placed_last p cells c run free in
      subst (λ k. j < width p.side k) place.size (slot_within p.side pat.low pat.high (with_last cells c) x j place.inside place.apart is)

  -- a cell that is free with the last tile in another one has a slot then
  pub slot_of_open : (x c : ℕ) → IsOpen p.side cells x c → (j : ℕ) × IsSlot p.side (with_last cells c) x j
  slot_of_open x c o = slot_some p.side pat.low pat.high (with_last cells c) x (open_free p.side cells x c o)

  -- a row has a place for each cell that is open with its own
  pub listed_low : (x c : ℕ) → IsOpen p.side cells x c → listed_below cells x c < row_length p.side (length p.tiles)
  listed_low x c o =
      let place = placed_last p cells x run o.cell in
      let low = free_below-low p.side (with_last cells x) c place.inside place.apart (free-with_last p.side cells x c o.last (λ e. o.other (sym e))) in
      subst (λ k. listed_below cells x c < row_length p.side k) place.size low

  -- and no other
  pub listed_at : (x i : ℕ) → IsFree p.side cells x → i < row_length p.side (length p.tiles) → (c : ℕ) × IsOpen p.side cells x c × (listed_below cells x c ≡ i)
  listed_at x i free low =
      let place = placed_last p cells x run free in
      let at = free_at p.side (with_last cells x) place.inside place.apart i (subst (λ k. i < row_length p.side k) (sym place.size) low) in
      let was = with_last-free p.side cells x at.0 at.1 in
      (at.0, record { last = was.0; cell = free; other = λ e. was.1 (sym e) }, at.2)

  module _ (x : ℕ) (row : List ℕ) (is : IsRow p.side (length p.tiles) cells x row) where
    -- a row's place for an open cell is within the bytes of the run
    pub open_low : (c : ℕ) → IsOpen p.side cells x c → get_or row (listed_below cells x c) 0 < 1 + run_length p.side cells * slot_count p
    open_low c o =
        let j = slot_of_open x c o in
        let e = is.place c j.0 o j.1 in
        let low = place_low p.side (slot_count p) cells c j.0 run.inside run.apart o.last (slot_low c x j.0 o.last j.1) in
        omega arith

    -- each place of a free cell's row is within the bytes of the run
    pub row_low : IsFree p.side cells x → (i : ℕ) → i < length row → get_or row i 0 < 1 + run_length p.side cells * slot_count p
    row_low free i l =
        let at = listed_at x i free (let s = is.size in omega arith) in
        subst (λ k. get_or row k 0 < 1 + run_length p.side cells * slot_count p) at.2 (open_low at.0 at.1)
