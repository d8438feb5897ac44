-- Ranks, rows and entries of a run's placements.
use Rattle.std.proofs.Common.{◌≡◌, ◌≢◌, ℕ, zero, suc, ◌+◌, ◌-◌, ◌*◌, ◌%◌, ◌^◌, ◌<◌, ◌≤◌, List, length, filter, get_or, take, drop, not, true, inl}
use Rattle.std.proofs.Common.{inr, refl, sym, ◌∙◌, ap, subst, arith, length-drop, lit<}
use Rattle.std.specs.Int.{bit_at}
use Rattle.std.specs.List.{range_with_len}
use Rattle.std.specs.Prelude.{slice_index}
use Rattle.std.proofs.lemmas.List.{get_or-drop, get_or-take, length-take-le}
use Rattle.std.proofs.Math.Nat.{mul-le-mul_right}
use Rattle.std.proofs.lemmas.Bool.{both_ways, cases_Bool, cases_eq}
use Rattle.std.proofs.lemmas.Nat.{mod_below, mul-add-lt, mul-le, ones-le, pow_pos}
use Rattle.std.proofs.Math.Nat.{pow-le-pow_right}
use Rattle.puz_board.specs.Boards.{IsBoard, IsBoardOf, blank, side_of}
use Rattle.puz_board.specs.Masks.{IsMaskOf, ones_below}
use Rattle.puz_board.proofs.BitLemmas.{in_below, in_or_out}
use Rattle.puz_board.proofs.BoardLemmas.{side_of-board}
use Rattle.puz_board.proofs.CellLemmas.{by_side, few_cells}
use Rattle.puz_board.proofs.OnesLemmas.{ones_below-suc, ones_below-zero}
use Rattle.pat_place.specs.Patterns.{IsPattern, ShownPattern, has, most_tiles, width}
use Rattle.pat_place.specs.Placements.{IsFree, IsPlacement, placement_of}
use Rattle.pat_place.specs.Ranks.{IsRank, placements}
use Rattle.pat_place.specs.Regions.{IsSlot}
use Rattle.pat_place.proofs.CountLemmas.{few_placements, few_slots}
use Rattle.pat_place.proofs.PatternLemmas.{few_tiles}
use Rattle.pat_place.proofs.PlacementLemmas.{IsPlacement-of}
use Rattle.pat_place.proofs.SetLemmas.{SameCells}
use Rattle.pat_place.proofs.SlotLemmas.{slot_some}
use Rattle.pat_place.proofs.RankLemmas.{IsRank-below, IsRank-one, count_of_placements, falling_fits}
use Rattle.pat_place.proofs.WidthLemmas.{slot_within}
use Rattle.tab_file.specs.Tables.{placement_count, slot_count}
use Rattle.tab_rule.specs.ExactTables.{IsExactTable, SaysOfBoard}
use Rattle.tab_rule.proofs.EntryLemmas.{entry_total}
use Rattle.tab_rule.proofs.LookLemmas.{entry_says, free_blank}
use Rattle.tab_runs.specs.Rows.{IsOpen, listed_below, row_length}
use Rattle.tab_runs.specs.RowTables.{AreRowsOf, row_of}
use Rattle.tab_runs.specs.RunPlaces.{IsFirstRank, IsRun, run_length}
use Rattle.tab_runs.specs.Runs.{free_below, with_last}
use Rattle.tab_runs.proofs.RunLemmas.{free-with_last, open_free, placed_last, with_last-free, with_last-here, with_last-other}
use Rattle.tab_runs.proofs.RunRanks.{first_some, free_at, free_below-free, free_below-low, free_below-taken, free_below-zero}
use Rattle.edge_words.specs.Lookups.{AreEntriesOf, HaveEntries, SaysOfAll}

-- the order of the cells is all the same
pub free_below-same : (p q : List ℕ) → SameCells p q → (c : ℕ) → free_below p c ≡ free_below q c
unfolding free_below
free_below-same p q same c = λ i. length (filter (λ d. not (same d i)) (range_with_len 0 c))

-- the mask of the free cells has as many bits below a cell as there are free cells
pub ones-free : (n : ℕ) (cells : List ℕ) (free : ℕ) → IsMaskOf free (IsFree n cells) → (c : ℕ) → c ≤ n * n → ones_below free c ≡ free_below cells c
ones-free n cells free is zero l = ones_below-zero free ∙ sym (free_below-zero cells)
ones-free n cells free is (suc c) l =
    let ih = ones-free n cells free is c (omega arith) in
    let more = ones_below-suc free c in
    let next : suc c ≡ c + 1 = omega arith in
    ap (ones_below free) next ∙
    elim (cases_Bool (has cells c)) [
      | inl taken ↦
          let none : bit_at free c ≡ 0 = elim (in_or_out free c) [ inl i ↦ absurd (both_ways (has cells c) ((is c).0 i).1 taken) | inr o ↦ o ] in
          let same = free_below-taken cells c taken in
          let up : free_below cells (suc c) ≡ free_below cells (c + 1) = ap (free_below cells) next in
          let up-too : ones_below free (c + 1) ≡ ones_below free (suc c) = ap (ones_below free) (sym next) in
          omega arith
      | inr empty ↦
          let one : bit_at free c ≡ 1 = (is c).1 (omega arith, empty) in
          let more-too = free_below-free cells c empty in
          let up : free_below cells (suc c) ≡ free_below cells (c + 1) = ap (free_below cells) next in
          let up-too : ones_below free (c + 1) ≡ ones_below free (suc c) = ap (ones_below free) (sym next) in
          omega arith
    ]

-- the rank of a run fits, times its length
pub run_fits : (p : ShownPattern) → IsPattern p → (cells : List ℕ) → IsRun p cells → (rank : ℕ) → IsRank p.side cells rank → (len : ℕ) → len ≤ 25
    → rank * len < 2 ^ 64
run_fits p pat cells run rank is len few =
    let side = few_cells p.side pat.low pat.high in
    let tiles = few_tiles p pat in
    let size = run.size in
    let low = IsRank-below p.side cells rank is in
    let count = count_of_placements p.side (length cells) in
    let fits = falling_fits (p.side * p.side) (length cells) side in
    let most : 25 ^ length cells ≤ 25 ^ 8 = pow-le-pow_right (lit< tt) (let l : length cells ≤ 8 = omega arith in l) in
    let all : rank * len ≤ 25 ^ 8 * 25 = mul-le rank len (25 ^ 8) 25 (omega arith) few in
    omega arith

-- a run's first rank
pub first_rank : (p : ShownPattern) (cells : List ℕ) → IsRun p cells → (rank : ℕ) → IsRank p.side cells rank → (len : ℕ)
    → len ≡ p.side * p.side - (length p.tiles - 1) → IsFirstRank p.side cells (rank * len)
first_rank p cells run rank is len len_is =
    let first = first_some p.side cells run.inside run.apart in
    let same : first.0 ≡ rank = IsRank-one p.side cells first.0 rank first.1 is in
    let size = run.size in
    let long : run_length p.side cells ≡ len = (let e : p.side * p.side - length cells ≡ p.side * p.side - (length p.tiles - 1) = omega arith in e)
    ∙ sym len_is in
    subst (λ k. IsFirstRank p.side cells (rank * k)) long (subst (λ r. IsFirstRank p.side cells (r * run_length p.side cells)) same first.2)

-- a mask with the last tile's cell
pub mask_with : (cells : List ℕ) (last set next : ℕ) → IsMaskOf set (λ c. has cells c ≡ true) → bit_at next last ≡ 1
    → ((x : ℕ) → x ≢ last → bit_at next x ≡ bit_at set x)
    → IsMaskOf next (λ c. has (with_last cells last) c ≡ true)
mask_with cells last set next is here others x = elim (cases_eq x last) [
  | inl e ↦ (λ h. ap (has (with_last cells last)) e ∙ with_last-here cells last, λ h. ap (bit_at next) e ∙ here)
  | inr ne ↦
      let same : has (with_last cells last) x ≡ has cells x = with_last-other cells last x (λ e. ne (sym e)) in
      (λ h. same ∙ (is x).0 (sym (others x ne) ∙ h), λ h. others x ne ∙ (is x).1 (sym same ∙ h))
]

-- one number more of a mask, or none
pub one_more : (m x : ℕ) → bit_at m x ≡ 1 → ones_below m (x + 1) ≡ ones_below m x + 1
one_more m x one =
    let more = ones_below-suc m x in
    ap (ones_below m) (let e : x + 1 ≡ suc x = omega arith in e) ∙ more ∙ ap (λ k. ones_below m x + k) one

-- a number that isn't in a mask adds none to the count of the mask's numbers below
pub none_more : (m x : ℕ) → (bit_at m x ≡ 1 → ⊥) → ones_below m (x + 1) ≡ ones_below m x
none_more m x none =
    let zero_bit : bit_at m x ≡ 0 = elim (in_or_out m x) [ inl i ↦ absurd (none i) | inr o ↦ o ] in
    let more = ones_below-suc m x in
    ap (ones_below m) (let e : x + 1 ≡ suc x = omega arith in e) ∙ more ∙ (omega arith)

-- the numbers of a mask below x are no more than x
pub few_below : (m x : ℕ) → ones_below m x ≤ x
few_below m x = ones-le x (m % 2 ^ x) (mod_below m (2 ^ x) (pow_pos x))

-- the free cells but one
pub mask_open : (n : ℕ) → n * n ≤ 32 → (cells : List ℕ) (free left cell : ℕ) → IsMaskOf free (IsFree n cells) → left < 2 ^ 32 → bit_at left cell ≡ 0
    → ((x : ℕ) → x < 32 → x ≢ cell → bit_at left x ≡ bit_at free x)
    → IsMaskOf left (IsFree n (with_last cells cell))
mask_open n small cells free left cell is fits clear others x = (to, from)
  where
    to : bit_at left x ≡ 1 → IsFree n (with_last cells cell) x
    to one =
        let low = in_below left 32 x fits one in
        elim (cases_eq x cell) [
          | inl e ↦ absurd (let none : bit_at left x ≡ 0 = ap (bit_at left) e ∙ clear in omega arith)
          | inr ne ↦ free-with_last n cells cell x ((is x).0 (sym (others x low ne) ∙ one)) ne
        ]

    from : IsFree n (with_last cells cell) x → bit_at left x ≡ 1
    from there =
        let was = with_last-free n cells cell x there in
        others x (let l = there.0 in omega arith) was.1 ∙ (is x).1 was.0

-- the place in a row
pub open_place : (n : ℕ) → n * n ≤ 32 → (cells : List ℕ) (free left cell : ℕ) → IsMaskOf free (IsFree n cells) → left < 2 ^ 32 → bit_at left cell ≡ 0
    → ((x : ℕ) → x < 32 → x ≢ cell → bit_at left x ≡ bit_at free x)
    → (last : ℕ) → last < n * n → (k : ℕ) → k ≡ ones_below left last → k ≡ listed_below cells cell last
open_place n small cells free left cell is fits clear others last low k below = below
    ∙ ones-free n (with_last cells cell) left (mask_open n small cells free left cell is fits clear others) last (omega arith)

-- a pattern leaves some cell free
some_room : (n : ℕ) → 2 ≤ n → n ≤ 5 → (k : ℕ) → k ≤ most_tiles n → k < n * n
some_room = by_side (λ n. (k : ℕ) → k ≤ most_tiles n → k < n * n)
    (λ k l. let few : k ≤ 3 = l in omega arith)
    (λ k l. let few : k ≤ 8 = l in omega arith)
    (λ k l. let few : k ≤ 8 = l in omega arith)
    (λ k l. let few : k ≤ 6 = l in omega arith)

module _ (p : ShownPattern) (pat : IsPattern p) (cells : List ℕ) (run : IsRun p cells) where
  slot_low : (last cell slot : ℕ) → IsFree p.side cells last → IsSlot p.side (with_last cells last) cell slot → slot < slot_count p
  slot_low last cell slot free is =
      let place = placed_last p cells last run free in
      subst (λ k. slot < width p.side k) place.size (slot_within p.side pat.low pat.high (with_last cells last) cell slot place.inside place.apart is)

  -- a run has an entry for each slot
  pub own_low : (own : List ℕ) → AreEntriesOf p cells own → (last cell slot : ℕ) → IsFree p.side cells last
      → IsSlot p.side (with_last cells last) cell slot → free_below cells last * slot_count p + slot < length own
  own_low own are last cell slot free is =
      let low : free_below cells last * slot_count p + slot < slot_count p * run_length p.side cells =
      mul-add-lt (free_below cells last) (slot_count p) slot (run_length p.side cells)
      (free_below-low p.side cells last run.inside run.apart free) (slot_low last cell slot free is) in
      let size = are.size in
      omega arith

  -- ---- rows

  module _ (cell last : ℕ) (opens : IsOpen p.side cells cell last) where
    listed_low : listed_below cells cell last < row_length p.side (length p.tiles)
    listed_low =
        let place = placed_last p cells cell run opens.cell in
        let low = free_below-low p.side (with_last cells cell) last place.inside place.apart
        (free-with_last p.side cells cell last opens.last (λ e. opens.other (sym e))) in
        subst (λ k. listed_below cells cell last < row_length p.side k) place.size low

    -- a free cell apart from the last tile has a slot in the placement of the run
    pub slot_there : (slot : ℕ) × IsSlot p.side (with_last cells last) cell slot
    slot_there = slot_some p.side pat.low pat.high (with_last cells last) cell (open_free p.side cells cell last opens)

    module _ (mask : ℕ) (rows : List ℕ) (set : IsMaskOf mask (λ c. has cells c ≡ true)) (are : AreRowsOf p.side (length p.tiles) mask rows) where
      -- the length of a row: how many cells the rows of a set list
      abbrev pub len : ℕ
      len = row_length p.side (length p.tiles)

      -- the place of the last tile's cell in the row of another cell is within the rows of the set
      pub row_place_low : cell * len + listed_below cells cell last < length rows
      row_place_low =
          let low = listed_low in
          let inside = opens.cell.0 in
          let size = are.size in
          let end : (cell + 1) * len ≤ p.side * p.side * len = mul-le-mul_right len (let l : cell + 1 ≤ p.side * p.side = omega arith in l) in
          omega arith

      -- the place of the cell's slot
      pub row_place : slice_index rows (cell * len + listed_below cells cell last) ≡ 1 + (free_below cells last * slot_count p + slot_there.0)
      row_place =
          let row = are.each cell opens.cell.0 cells set in
          let read : get_or (row_of len rows cell) (listed_below cells cell last) 0 ≡ get_or rows (cell * len + listed_below cells cell last) 0 =
          get_or-take len (drop (cell * len) rows) (listed_below cells cell last) 0 listed_low
          ∙ get_or-drop (cell * len) rows (listed_below cells cell last) 0 in
          let there = row.place last slot_there.0 opens slot_there.1 in
          sym read ∙ there ∙ (let e : 1 + free_below cells last * slot_count
          p + slot_there.0 ≡ 1 + (free_below cells last * slot_count p + slot_there.0) = omega arith in e)

  -- ---- entries

  module _ (last : ℕ) (free : IsFree p.side cells last) where
    -- the placement with the last tile in a free cell
    placed : IsPlacement (record { pattern = p; cells = with_last cells last })
    placed = placed_last p cells last run free

    -- the rank of a run's placement is below the count of placements
    pub rank_low : (rank : ℕ) → IsRank p.side (with_last cells last) rank → rank < placement_count p
    rank_low rank is = subst (λ k. rank < length (placements p.side k)) placed.size (IsRank-below p.side (with_last cells last) rank is)

    -- the rank of a run's placement is below 2^32
    pub rank_fits : (rank : ℕ) → IsRank p.side (with_last cells last) rank → rank < 2 ^ 32
    rank_fits rank is = let low = rank_low rank is in let few = few_placements p pat in omega arith

    -- the free cells below the last tile's, counted in their mask, are as many as those counted by the run's cells
    pub number_is : (mask k : ℕ) → IsMaskOf mask (IsFree p.side cells) → k ≡ ones_below mask last → k ≡ free_below cells last
    number_is mask k is below = below ∙ ones-free p.side cells mask is last (let l = free.0 in omega arith)

    -- the first rank of a run and the count of free cells below the last tile make the rank of the placement
    pub rank_is : (first mask k : ℕ) → IsFirstRank p.side cells first → IsMaskOf mask (IsFree p.side cells) → k ≡ ones_below mask last
        → IsRank p.side (with_last cells last) (first + k)
    rank_is first mask k is_first is below = subst (λ j. IsRank p.side (with_last cells last) (first + j)) (sym (number_is mask k is below))
        (is_first.each last free)

    -- the entry of a rank and a slot
    place_says : (entries : List ℕ) → IsExactTable (record { pattern = p; entries = entries }) → (rank slot cell : ℕ)
        → IsRank p.side (with_last cells last) rank → IsSlot p.side (with_last cells last) cell slot
        → SaysOfAll p (with_last cells last) cell (slice_index entries (rank * slot_count p + slot))
    place_says entries exact rank slot cell is_rank is_slot b board places blank_is =
        let side : side_of b ≡ p.side = side_of-board p.side b board in
        let good : IsBoard b = subst (λ n. IsBoardOf n b) (sym side) board in
        entry_says (record { pattern = p; entries = entries }) exact b good side rank slot (slice_index entries (rank * slot_count p + slot))
        (subst (λ xs. IsRank p.side xs rank) (sym places) is_rank)
        (subst (λ xs. IsSlot p.side xs (blank b) slot) (sym places) (subst (λ c. IsSlot p.side (with_last cells last) c slot) (sym blank_is) is_slot))
        (slot_low last cell slot free is_slot) refl

  module _ (first : ℕ) (is_first : IsFirstRank p.side cells first) where
    some : 0 < run_length p.side cells
    some = let size = run.size in let room = some_room p.side pat.low pat.high (length p.tiles) pat.most in omega arith

    -- a run ends within the table
    run_few : first + run_length p.side cells ≤ placement_count p
    run_few =
        let top = free_at p.side cells run.inside run.apart (run_length p.side cells - 1) (let s = some in omega arith) in
        let low = rank_low top.0 top.1 (first + free_below cells top.0) (is_first.each top.0 top.1) in
        let at = top.2 in
        let s = some in
        omega arith

    module _ (entries : List ℕ) (exact : IsExactTable (record { pattern = p; entries = entries })) where
      -- the entries of a run end within those of the table
      pub run_end : first * slot_count p + run_length p.side cells * slot_count p ≤ length entries
      run_end =
          let all : (first + run_length p.side cells) * slot_count p ≤ placement_count p * slot_count p = mul-le-mul_right (slot_count p) run_few in
          let size : length entries ≡ placement_count p * slot_count p = exact.is_table.entries in
          omega arith

      -- the number of the place where a run's entries end is below 2^32
      pub run_small : first * slot_count p + run_length p.side cells * slot_count p < 2 ^ 32
      run_small = let end = run_end in let size : length entries ≡ placement_count p * slot_count p = exact.is_table.entries in
          let few = few_slots p pat in omega arith

      -- the part of the entries that is the run's
      pub run_entries : (start many : ℕ) → start ≡ first * slot_count p → many ≡ run_length p.side cells * slot_count p
          → AreEntriesOf p cells (take many (drop start entries))
      run_entries start many start_is many_is = record {
        size = size;
        each = λ last cell slot free is.
            let low : free_below cells last * slot_count p + slot < slot_count p * run_length p.side cells =
            mul-add-lt (free_below cells last) (slot_count p) slot (run_length p.side cells)
            (free_below-low p.side cells last run.inside run.apart free) (slot_low last cell slot free is) in
            let read : get_or (take many (drop start entries)) (free_below cells last * slot_count p + slot) 0 ≡ get_or entries
            (start + (free_below cells last * slot_count p + slot)) 0 =
            get_or-take many (drop start entries) (free_below cells last * slot_count p + slot) 0 (omega arith)
            ∙ get_or-drop start entries (free_below cells last * slot_count p + slot) 0 in
            let at : start + (free_below cells last * slot_count p + slot) ≡ (first + free_below cells last) * slot_count p + slot =
            ap (λ s. s + (free_below cells last * slot_count p + slot)) start_is ∙ (omega arith) in
            subst (SaysOfAll p (with_last cells last) cell) (sym (read ∙ ap (λ k. get_or entries k 0) at))
            (place_says last free entries exact (first + free_below cells last) slot cell (is_first.each last free) is);
      }
        where
          size : length (take many (drop start entries)) ≡ run_length p.side cells * slot_count p
          size = length-take-le many (drop start entries) (let end = run_end in let d = length-drop start entries in omega arith) ∙ many_is

-- each board has an entry
pub have_entries : (p : ShownPattern) (entries : List ℕ) → IsExactTable (record { pattern = p; entries = entries }) → HaveEntries p
have_entries p entries is b board =
    let pat = is.is_table.pattern in
    let side : side_of b ≡ p.side = side_of-board p.side b board in
    let good : IsBoard b = subst (λ n. IsBoardOf n b) (sym side) board in
    let e = entry_total p pat entries (placement_of p.tiles b) (blank b) (IsPlacement-of b good p pat side) (free_blank p pat b good side) in
    let right = is.exact (placement_of p.tiles b) e.1.slot e.1.number e.1.is_number in
    (e.0, subst (SaysOfBoard p.tiles b) e.1.holds (right.boards b board refl e.1.is_slot))
