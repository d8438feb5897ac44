-- The placement that is held, from cell to cell of a run's last tile.
use Rattle.std.proofs.Common.{◌≡◌, ℕ, ◌+◌, ◌*◌, ◌<◌, ◌≤◌, ◌-◌, Bool, true, false, Some, List, length, sym, ◌∙◌, ap, ap₂, subst, arith}
use Rattle.std.specs.Prelude.{IsTrue, ◌↔◌, MatchBool, slice_get}
use Rattle.std.specs.Int.{bit_at}
use Rattle.std.specs.List.{range_with_len}
use Rattle.std.proofs.lemmas.Bool.{both_ways, false_from_ne_true}
use Rattle.std.proofs.Math.Nat.{mul-le-mul_right}
use Rattle.puz_board.specs.Masks.{IsMaskOf}
use Rattle.puz_board.proofs.CellLemmas.{by_side}
use Rattle.pat_place.specs.Patterns.{IsPattern, ShownPattern, has, most_tiles, width}
use Rattle.pat_place.specs.Placements.{IsFree, IsPlacement, ShownPlacement}
use Rattle.pat_place.specs.Ranks.{IsRank, lists_of, placements}
use Rattle.pat_place.proofs.RankLemmas.{IsRank-from, IsRank-one}
use Rattle.tab_rule.proofs.BlockLemmas.{next_rank, same_cells}
use Rattle.pat_place.specs.Regions.{AreRegions}
use Rattle.tab_file.specs.Tables.{placement_count, slot_count}
use Rattle.tab_runs.specs.RunPlaces.{IsFirstRank, IsRun, run_length}
use Rattle.tab_runs.specs.Runs.{free_below, with_last}
use Rattle.tab_runs.proofs.EntriesLemmas.{run_few}
use Rattle.tab_runs.proofs.RunRanks.{first_some, free_below-free, free_below-low, free_below-taken, free_below-zero}
use Rattle.tab_runs.proofs.RowLemmas.{few_entries}
use Rattle.tab_runs.proofs.RunLemmas.{placed_last}

-- ---- a run's set of cells

-- the first placement of a run is one of the table's
run_some : (p : ShownPattern) → IsPattern p → (cells : List ℕ) → IsRun p cells → 0 < run_length p.side cells
run_some p pat cells run =
    let k = by_side (λ n. (k : ℕ) → k + 1 ≤ most_tiles n → k < n * n)
    (λ k l. let m : k + 1 ≤ 3 = l in omega arith)
    (λ k l. let m : k + 1 ≤ 8 = l in omega arith)
    (λ k l. let m : k + 1 ≤ 8 = l in omega arith)
    (λ k l. let m : k + 1 ≤ 6 = l in omega arith)
    p.side pat.low pat.high (length cells) (let m = pat.most in let s = run.size in omega arith) in
    omega arith

-- what is known of a run and its set: how many cells the board has, how many slots a placement, how many placements the
-- run, and the rank of its first one
pub record IsRunOfSet (p : ShownPattern) (cells : List ℕ) (mask count width size first : ℕ) : Type 0 where
  pub pattern : IsPattern p
  pub run : IsRun p cells
  pub is_mask : IsMaskOf mask (λ c. has cells c ≡ true)
  pub board : count ≡ p.side * p.side
  pub is_width : width ≡ slot_count p
  pub is_size : size ≡ run_length p.side cells
  pub is_first : IsFirstRank p.side cells first
  pub low : first < placement_count p
  pub few : first + size ≤ placement_count p

-- cells, a mask of them, and the numbers that the code computes from the cells' rank are a run of a set
pub run_of_set : (p : ShownPattern) → IsPattern p → (cells : List ℕ) → IsRun p cells → (mask rank : ℕ) → IsMaskOf mask (λ c. has cells c ≡ true)
    → {side count from width : ℕ} → side ≡ p.side → count ≡ side * side → from ≡ count
    → width ≡ slot_count p → slice_get (lists_of (length cells) (range_with_len 0 count)) rank ≡ Some cells
    → IsRunOfSet p cells mask count width (from - length cells) (rank * (from - length cells))
run_of_set p pat cells run mask rank is_mask {side} {count} {from} {width} side_is count_is from_is width_is found =
    let board : count ≡ p.side * p.side = count_is ∙ ap₂ (λ m n. m * n) side_is side_is in
    let size : from - length cells ≡ run_length p.side cells = ap (λ k. k - length cells) (from_is ∙ board) in
    let is : IsRank p.side cells rank = IsRank-from p.side cells rank
    (subst (λ m. slice_get (lists_of (length cells) (range_with_len 0 m)) rank ≡ Some cells) board found) in
    let first = first_some p.side cells run.inside run.apart in
    let same : first.0 * run_length p.side cells ≡ rank * (from - length cells) =
    ap₂ (λ r l. r * l) (IsRank-one p.side cells first.0 rank first.1 is) (sym size) in
    let few = run_few p cells run rank is in
    let some = run_some p pat cells run in
    let e : rank * (from - length cells) ≡ rank * run_length p.side cells = ap (λ l. rank * l) size in
    record {
      pattern = pat;
      run = run;
      is_mask = is_mask;
      board = board;
      is_width = width_is;
      is_size = size;
      is_first = subst (IsFirstRank p.side cells) same first.2;
      low = omega arith;
      few = omega arith;
    }

-- ---- the placement of a cell of the last tile

-- the placement that is held at a cell: that of the first free cell from there on, if there is one
pub record IsHeld (p : ShownPattern) (cells : List ℕ) (size first last free : ℕ) (view : ShownPlacement) : Type 0 where
  pub count : free ≡ free_below cells last
  pub pattern : view.pattern ≡ p
  pub placement : IsPlacement view
  pub rank : free < size → IsRank p.side view.cells (first + free)

-- at cell 0 the placement with the run's first rank is held, with no free cell counted
pub held_start : {p : ShownPattern} {cells : List ℕ} {size first : ℕ} {view : ShownPlacement} → view.pattern ≡ p → IsPlacement view
    → IsRank p.side view.cells first → IsHeld p cells size first 0 0 view
held_start {p} {cells} {size} {first} {view} same placed is = record {
  count = sym (free_below-zero cells);
  pattern = same;
  placement = placed;
  rank = λ l. subst (IsRank p.side view.cells) (let e : first ≡ first + 0 = omega arith in e) is;
}

-- a placement that is held is held too where it and its free count have other names
pub held_as : {p : ShownPattern} {cells : List ℕ} {size first last f g : ℕ} {u v : ShownPlacement} → f ≡ g → u ≡ v
    → IsHeld p cells size first last g v → IsHeld p cells size first last f u
held_as {p} {cells} {size} {first} {last} {f} {g} {u} {v} a b is =
    subst (λ k. IsHeld p cells size first last k u) (sym a) (subst (IsHeld p cells size first last g) (sym b) is)

-- what is known at a free cell, and of the placement that is held there
pub record IsAtLast (p : ShownPattern) (cells : List ℕ) (last before : ℕ) (view : ShownPlacement) : Type 0 where
  pub free : IsFree p.side cells last
  pub before_is : before ≡ free_below cells last * slot_count p
  pub before_low : 1 + before + slot_count p ≤ 141
  pub marks_low : before + slot_count p ≤ run_length p.side cells * slot_count p
  pub pattern : view.pattern ≡ p
  pub cells_are : view.cells ≡ with_last cells last
  pub size : length view.cells ≡ length p.tiles

module _ {p : ShownPattern} {cells : List ℕ} {mask count width size first last free : ℕ} {view : ShownPlacement}
    (is : IsRunOfSet p cells mask count width size first) (held : IsHeld p cells size first last free view) where
  -- where the set lacks a cell of the board, the placement that is held is the run's with the last tile there
  pub at_last : {taken : Bool} → last < count → IsTrue taken ↔ (bit_at mask last ≡ 1) → taken ≡ false → IsAtLast p cells last (free * width) view
  at_last {taken} low test not_taken =
      let board = is.board in
      let is_free : IsFree p.side cells last = (
        (omega arith),
        false_from_ne_true (has cells last) (λ t. both_ways taken not_taken (test.1 ((is.is_mask last).1 t))),
      ) in
      let at : free < run_length p.side cells = (let l = free_below-low p.side cells last is.run.inside is.run.apart is_free in let e = held.count in
      omega arith) in
      let up : (free + 1) * slot_count p ≤ run_length p.side cells * slot_count p =
      mul-le-mul_right (slot_count p) (let s : free + 1 ≤ run_length p.side cells = omega arith in s) in
      let few = few_entries p is.pattern cells is.run in
      let before : free * width ≡ free * slot_count p = ap (λ w. free * w) is.is_width in
      let placed = placed_last p cells last is.run is_free in
      let long : length view.cells ≡ length p.tiles = held.placement.size ∙ ap (λ q. length q.tiles) held.pattern in
      record {
        free = is_free;
        before_is = before ∙ ap (λ f. f * slot_count p) held.count;
        before_low = omega arith;
        marks_low = omega arith;
        pattern = held.pattern;
        cells_are = same_cells p.side view.cells (with_last cells last) (first + free) (long ∙ sym placed.size)
            (held.rank (let e = is.is_size in omega arith)) (subst (λ k. IsRank p.side (with_last cells last) (first + k)) (sym held.count)
            (is.is_first.each last is_free));
        size = long;
      }

  -- past a free cell the next placement by rank is held, and one more free cell is counted
  pub held_more : (moved : Bool) {next : ShownPlacement} → has cells last ≡ false → next.pattern ≡ view.pattern → IsPlacement next
      → ((r : ℕ) → IsRank view.pattern.side view.cells r
      → MatchBool moved (IsRank view.pattern.side next.cells (r + 1)) (r + 1 ≡ length (placements view.pattern.side (length view.cells))))
      → IsHeld p cells size first (last + 1) (free + 1) next
  held_more moved {next} out same placed step = record {
    count = ap (λ k. k + 1) held.count ∙ sym (free_below-free cells last out);
    pattern = same ∙ held.pattern;
    placement = placed;
    rank = λ l.
        let few = is.few in
        let here = next_rank p view next.cells moved (first + free) held.pattern held.placement (held.rank (omega arith)) (omega arith) step in
        subst (IsRank p.side next.cells) (let e : first + free + 1 ≡ first + (free + 1) = omega arith in e) here;
  }

  -- past a cell that a tile of the run is in, the same placement is held
  pub held_skip : has cells last ≡ true → IsHeld p cells size first (last + 1) free view
  held_skip taken = record {
    count = held.count ∙ sym (free_below-taken cells last taken);
    pattern = held.pattern;
    placement = held.placement;
    rank = held.rank;
  }

module _ {p : ShownPattern} {cells : List ℕ} {last before : ℕ} {view : ShownPlacement} (at : IsAtLast p cells last before view) where
  -- the regions of the placement that is held are those of the run's cells with the last tile in the free cell
  pub regions_are : {items regions : List ℕ} → regions ≡ items → AreRegions view.pattern.side view.cells items
      → AreRegions p.side (with_last cells last) regions
  regions_are {items} {regions} same are = subst (AreRegions p.side (with_last cells last)) (sym same)
      (subst (λ q. AreRegions p.side q items) at.cells_are (subst (λ q. AreRegions q.side view.cells items) at.pattern are))

  -- a placement has no more regions than the pattern has slots
  pub regions_few : {count : ℕ} → count ≤ width view.pattern.side (length view.cells) → count ≤ slot_count p
  regions_few {count} few = subst (λ w. count ≤ w) (ap₂ (λ q k. width q.side k) at.pattern at.size) few
