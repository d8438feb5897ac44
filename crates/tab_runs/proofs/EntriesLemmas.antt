-- The bytes of a run in its table's file.
use Rattle.std.proofs.Common.{◌≡◌, ℕ, suc, ◌+◌, ◌-◌, ◌*◌, ◌^◌, ◌<◌, ◌≤◌, List, length, take, drop, get_or, Some, sym, ◌∙◌, ap, ap₂, subst, arith, length-drop}
use Rattle.std.specs.Prelude.{slice_get}
use Rattle.std.specs.List.{range_with_len}
use Rattle.std.proofs.lemmas.List.{get_or-drop, get_or-take, length-take-le}
use Rattle.std.proofs.Math.Nat.{mul-le-mul_right}
use Rattle.pat_place.specs.Patterns.{ShownPattern}
use Rattle.pat_place.specs.Ranks.{IsRank, falling_factorial, lists_of}
use Rattle.pat_place.proofs.CountLemmas.{few_slots}
use Rattle.pat_place.proofs.RankLemmas.{IsRank-below, IsRank-from, IsRank-one, count_of_placements, falling_more}
use Rattle.tab_file.specs.TableFiles.{IsTableFile}
use Rattle.tab_file.specs.Tables.{Table, entry_count, placement_count, slot_count}
use Rattle.tab_runs.specs.RunPlaces.{AreRunEntries, IsRun, run_length}
use Rattle.tab_runs.specs.Runs.{free_below}
use Rattle.tab_runs.proofs.RowLemmas.{place_low}
use Rattle.tab_runs.proofs.RunRanks.{first_some}

-- ---- a run ends within the table

-- all placements of a run have ranks below the count of placements
pub run_few : (p : ShownPattern) (cells : List ℕ) → IsRun p cells → (r : ℕ) → IsRank p.side cells r
    → r * run_length p.side cells + run_length p.side cells ≤ placement_count p
run_few p cells run r is =
    let low : r < falling_factorial (p.side * p.side) (length cells) = (let l = IsRank-below p.side cells r is in
    let e = count_of_placements p.side (length cells) in omega arith) in
    let all : placement_count p ≡ falling_factorial (p.side * p.side) (length cells) * run_length p.side cells =
    count_of_placements p.side (length p.tiles) ∙ ap (falling_factorial (p.side * p.side))
    (sym run.size ∙ (let e : length cells + 1 ≡ suc (length cells) = omega arith in e)) ∙ falling_more (p.side * p.side) (length cells) in
    let next : (r + 1) * run_length p.side cells ≤ falling_factorial (p.side * p.side) (length cells) * run_length p.side cells =
    mul-le-mul_right (run_length p.side cells) (let s : r + 1 ≤ falling_factorial (p.side * p.side) (length cells) = omega arith in s) in
    omega arith

-- the entries of a run, with those before them, are no more than the table's entries
pub run_end : (p : ShownPattern) (cells : List ℕ) → IsRun p cells → (r : ℕ) → IsRank p.side cells r
    → (r * run_length p.side cells + run_length p.side cells) * slot_count p ≤ entry_count p
run_end p cells run r is = mul-le-mul_right (slot_count p) (run_few p cells run r is)

-- a table file has fewer than 2 ^ 33 bytes
pub file_small : (t : Table) (file : List ℕ) → IsTableFile t file → length file < 2 ^ 33
file_small t file is =
    let few = few_slots t.pattern is.table.pattern in
    let all : length t.entries ≡ entry_count t.pattern = is.table.entries in
    let d : length (drop 20 file) ≡ length t.entries = ap length is.entries in
    let k = length-drop 20 file in
    omega arith

-- the numbers that lead to the bytes of a run
pub record AreNumbers (t : Table) (cells : List ℕ) (rank run width : ℕ) : Type 0 where
  pub is_rank : IsRank t.pattern.side cells rank
  pub is_run : run ≡ run_length t.pattern.side cells
  pub is_width : width ≡ slot_count t.pattern

-- what the code computes of a run's cells is their rank, the run's length and the number of slots
pub are_numbers : (t : Table) (pattern : ShownPattern) (cells : List ℕ) (side count from w width rank : ℕ) → pattern ≡ t.pattern
    → side ≡ pattern.side → count ≡ side * side → from ≡ count → w ≡ slot_count pattern → width ≡ w
    → slice_get (lists_of (length cells) (range_with_len 0 count)) rank ≡ Some cells → AreNumbers t cells rank (from - length cells) width
are_numbers t pattern cells side count from w width rank same side_is count_is from_is w_is width_is found =
    let n : side ≡ t.pattern.side = side_is ∙ ap (λ q. q.side) same in
    let all : count ≡ t.pattern.side * t.pattern.side = count_is ∙ ap₂ (λ a b. a * b) n n in
    record {
      is_rank = IsRank-from t.pattern.side cells rank (subst (λ m. slice_get (lists_of (length cells) (range_with_len 0 m)) rank ≡ Some cells) all found);
      is_run = ap (λ k. k - length cells) (from_is ∙ all);
      is_width = width_is ∙ w_is ∙ ap slot_count same;
    }

module _ (t : Table) (file p : List ℕ) (is_file : IsTableFile t file) (run : IsRun t.pattern p) (r : ℕ) (is_rank : IsRank t.pattern.side p r) where
  w : ℕ
  w = slot_count t.pattern

  -- the file reaches to the end of a run's entries, with the byte before them
  pub run_room : 19 + r * run_length t.pattern.side p * slot_count t.pattern + (run_length t.pattern.side p * slot_count t.pattern + 1) ≤ length file
  run_room =
      let e = run_end t.pattern p run r is_rank in
      let all : length t.entries ≡ entry_count t.pattern = is_file.table.entries in
      let d : length (drop 20 file) ≡ length t.entries = ap length is_file.entries in
      let k = length-drop 20 file in
      let room = is_file.room in
      omega arith

  -- the bytes of the file from the one before a run on, one more than the run's entries, are the run's entries
  pub run_bytes : (start len : ℕ) → start ≡ 19 + r * run_length t.pattern.side p * slot_count t.pattern
      → len ≡ run_length t.pattern.side p * slot_count t.pattern + 1 → AreRunEntries t p (take len (drop start file))
  run_bytes start len start_is len_is =
      let first = first_some t.pattern.side p run.inside run.apart in
      let same : first.0 ≡ r = IsRank-one t.pattern.side p first.0 r first.1 is_rank in
      record {
        first = first.0 * run_length t.pattern.side p;
        is_first = first.2;
        size = length-take-le len (drop start file) (let room = run_room in let k = length-drop start file in omega arith) ∙ len_is ∙ (omega arith);
        each = λ c j free low.
            let place = place_low t.pattern.side (slot_count t.pattern) p c j run.inside run.apart free low in
            let at : ℕ = 1 + free_below p c * slot_count t.pattern + j in
            let within : at < len = omega arith in
            get_or-take len (drop start file) at 0 within ∙
            get_or-drop start file at 0 ∙
            ap (λ k. get_or file k 0) (places (free_below p c) j start_is same) ∙
            sym (get_or-drop 20 file ((first.0 * run_length t.pattern.side p + free_below p c) * slot_count t.pattern + j) 0) ∙
            ap (λ xs. get_or xs ((first.0 * run_length t.pattern.side p + free_below p c) * slot_count t.pattern + j) 0) is_file.entries;
      }
    where
      places : (b j : ℕ) {r' : ℕ} → start ≡ 19 + r * run_length t.pattern.side p * slot_count t.pattern → r' ≡ r
          → start + (1 + b * slot_count t.pattern + j) ≡ 20 + ((r' * run_length t.pattern.side p + b) * slot_count t.pattern + j)
      places b j is e = ap (λ s. s + (1 + b * slot_count t.pattern + j))
          (is ∙ ap (λ x. 19 + x * run_length t.pattern.side p * slot_count t.pattern) (sym e)) ∙ (omega arith)

  -- the run's bytes end within the file, by the numbers that the code has
  pub run_within : (run width : ℕ) → AreNumbers t p r run width → 19 + r * run * width + run * width + 1 ≤ length file
  run_within run width are = let h = run_room in let e = ap₂ (λ l w. 19 + r * l * w + l * w + 1) are.is_run are.is_width in omega arith

  -- the slice of the file between the code's two bounds has the run's entries and the byte before them
  pub run_slice : (run width : ℕ) → AreNumbers t p r run width
      → AreRunEntries t p (take (19 + r * run * width + run * width + 1 - (19 + r * run * width)) (drop (19 + r * run * width) file))
  run_slice run width are = run_bytes (19 + r * run * width) (19 + r * run * width + run * width + 1 - (19 + r * run * width))
      (ap₂ (λ l w. 19 + r * l * w) are.is_run are.is_width)
      ((let e : 19 + r * run * width + run * width + 1 - (19 + r * run * width) ≡ run * width + 1 = omega arith in e)
      ∙ ap₂ (λ l w. l * w + 1) are.is_run are.is_width)
