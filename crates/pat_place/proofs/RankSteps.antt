-- A rank made cell by cell, and a placement made cell by cell from its rank.
use Rattle.std.proofs.Common.{◌≡◌, ◌≢◌, ℕ, suc, ◌+◌, ◌-◌, ◌*◌, ◌/◌, ◌%◌, ◌^◌, ◌<◌, ◌≤◌, List, [], ◌∷◌, ◌++◌, length, take, drop, get_or, set}
use Rattle.std.proofs.Common.{replicate, Some, inl, inr, refl, sym, ◌∙◌, ap, ap₂, subst, arith, append_assoc, lit<, zero-mul, mul-zero, mul_comm}
use Rattle.std.proofs.Common.{mod-eq_of_lt}
use Rattle.std.specs.Prelude.{slice_get, count_ones}
use Rattle.std.specs.Int.{bit_at}
use Rattle.std.specs.List.{AllByRecursion, range_with_len}
use Rattle.std.proofs.lemmas.Bool.{cases_eq}
use Rattle.std.proofs.lemmas.List.{drop_more, drop_all, append-nil, take_more_set, length-set, drop-set-lt, drop-drop, drop-replicate}
use Rattle.std.proofs.lemmas.Nat.{mul-le, mod_below, div-add-mod', div-mul-add, div_below}
use Rattle.std.proofs.lemmas.Nat.Bits.{bit_at_ones}
use Rattle.std.proofs.Math.Nat.{pow-suc, pow-le-pow_right}
use Rattle.puz_board.specs.Masks.{numbers_of, ones_below}
use Rattle.puz_board.proofs.OnesLemmas.{ones_below-mono, ones_below-suc}
use Rattle.pat_place.specs.Placements.{IsApart}
use Rattle.pat_place.specs.Ranks.{lists_of, falling_factorial}
use Rattle.pat_place.proofs.ListLemmas.{apart_from_ascending, ascending-range, apart_at, all_at}
use Rattle.pat_place.proofs.MaskLemmas.{get-numbers_below, numbers_below-clear, ascending-numbers_below, length-numbers_below, numbers_below-full}
use Rattle.pat_place.proofs.MaskLemmas.{has-numbers_below}
use Rattle.pat_place.proofs.RankLemmas.{rank_step, length-without, length_lists}
use Rattle.std.proofs.lemmas.List.FromFn.{length-range_with_len}

regroup : (rank room block place r : ℕ) → rank * (room * block) + (place * block + r) ≡ (rank * room + place) * block + r
regroup rank room block place r = omega arith

-- one cell more of a list of free cells
pub step : (m free next c : ℕ) → c < 32 → bit_at free c ≡ 1 → bit_at next c ≡ 0 → ((x : ℕ) → x < 32 → x ≢ c → bit_at next x ≡ bit_at free x)
    → (r : ℕ) (q : List ℕ)
    → slice_get (lists_of m (numbers_of next)) r ≡ Some q
    → slice_get (lists_of (suc m) (numbers_of free)) (ones_below free c * falling_factorial (length (numbers_of free) - 1) m + r) ≡ Some (c ∷ q)
step m free next c below here clear same r q e =
    rank_step m (numbers_of free) (apart_from_ascending (numbers_of free) (ascending-numbers_below 32 free)) (ones_below free c) c r q
    (get-numbers_below 32 free c here below)
    (ap (λ cs. slice_get (lists_of m cs) r) (sym (numbers_below-clear 32 free next c clear same)) ∙ e)

-- one cell fewer is free
pub count-clear : (free next c : ℕ) → c < 32 → bit_at free c ≡ 1 → bit_at next c ≡ 0 → ((x : ℕ) → x < 32 → x ≢ c → bit_at next x ≡ bit_at free x)
    → suc (length (numbers_of next)) ≡ length (numbers_of free)
count-clear free next c below here clear same =
    ap (λ cs. suc (length cs)) (numbers_below-clear 32 free next c clear same) ∙
    length-without c (numbers_of free) (apart_from_ascending (numbers_of free) (ascending-numbers_below 32 free)) (has-numbers_below 32 free c below here)

-- ---- a rank

-- what the rank of the first i cells says of the rank of them all
pub record IsRanking (cells : List ℕ) (count i free room rank : ℕ) : Type 0 where
  pub left : room + i ≡ count
  pub few : count ≤ 25
  pub bits : free < 2 ^ 32
  pub free_count : length (numbers_of free) ≡ room
  pub fits : rank < 25 ^ i
  pub inside : (j : ℕ) → j < length cells → get_or cells j 0 < 32
  pub coming : (j : ℕ) → i ≤ j → j < length cells → bit_at free (get_or cells j 0) ≡ 1
  pub whole : (r : ℕ) → slice_get (lists_of (length cells - i) (numbers_of free)) r ≡ Some (drop i cells)
      → slice_get (lists_of (length cells) (range_with_len 0 count)) (rank * falling_factorial room (length cells - i) + r) ≡ Some cells

-- before a cell is ranked, all cells are free, and the rank is 0
pub IsRanking-start : (cells : List ℕ) (count : ℕ) → count ≤ 25 → AllByRecursion (λ c. c < count) cells → IsRanking cells count 0 (2 ^ count - 1) count 0
IsRanking-start cells count few inside = record {
  left = omega arith;
  few = few;
  bits = (let up : 2 ^ count ≤ 2 ^ 31 = pow-le-pow_right (lit< tt) (let l : count ≤ 31 = omega arith in l) in omega arith);
  free_count = ap length full ∙ length-range_with_len 0 count;
  fits = lit< tt;
  inside = (λ j l. let k = all_at cells j inside l in omega arith);
  coming = (λ j low l. bit_at_ones count (get_or cells j 0) (all_at cells j inside l));
  whole = (λ r e.
      ap (slice_get (lists_of (length cells) (range_with_len 0 count))) (let z = zero-mul (falling_factorial count (length cells - 0)) in
      let q : 0 * falling_factorial count (length cells - 0) + r ≡ r = omega arith in q) ∙
      ap (λ cs. slice_get (lists_of (length cells) cs) r) (sym full) ∙
      ap (λ k. slice_get (lists_of k (numbers_of (2 ^ count - 1))) r) (let q : length cells ≡ length cells - 0 = omega arith in q) ∙
      e);
}
  where
    full : numbers_of (2 ^ count - 1) ≡ range_with_len 0 count
    full = numbers_below-full 32 count (omega arith)

-- the next cell's place among the free ones
pub place_fits : (free c : ℕ) → free < 2 ^ 32 → c < 32 → bit_at free c ≡ 1 → ones_below free c < length (numbers_of free)
place_fits free c fits l one =
    let e = length-numbers_below 32 free fits in
    let whole : ones_below free 32 ≡ count_ones free = ap count_ones (mod-eq_of_lt fits) in
    let next = ones_below-suc free c in
    let up = ones_below-mono free (suc c) 32 (omega arith) in
    omega arith

module _ (cells : List ℕ) (apart : IsApart cells) (count i free room rank : ℕ) (h : IsRanking cells count i free room rank) (here : i < length cells) where
  IsRanking-room : (0 < room) × (rank * room + ones_below free (get_or cells i 0) < 25 ^ (i + 1))
  IsRanking-room =
      let place = place_fits free (get_or cells i 0) h.bits (h.inside i here) (h.coming i (omega arith) here) in
      let e = h.free_count in
      let few : room ≤ 25 = let a = h.left in let b = h.few in omega arith in
      let low : rank + 1 ≤ 25 ^ i = let f = h.fits in omega arith in (
        omega arith,
        let f = mul-le (rank + 1) room (25 ^ i) 25 low few in
            let g : 25 ^ (i + 1) ≡ 25 ^ i * 25 = ap (λ k. 25 ^ k) (let e : i + 1 ≡ suc i = omega arith in e) ∙ pow-suc 25 i in
            let q : (rank + 1) * room ≡ rank * room + room = omega arith in omega arith,
      )

  -- while one of at most 8 cells isn't ranked, there is room, and the next rank is below 25^8
  pub IsRanking-fits : length cells ≤ 8 → (0 < room) × (rank * room + ones_below free (get_or cells i 0) < 25 ^ 8)
  IsRanking-fits few =
      let next = IsRanking-room.1 in
      let more : 25 ^ (i + 1) ≤ 25 ^ 8 = pow-le-pow_right (lit< tt) (let l : i + 1 ≤ 8 = omega arith in l) in
      (IsRanking-room.0, omega arith)

  -- the next rank is the rank times the room, and the free cells below the next cell, which is taken
  pub IsRanking-more : (next : ℕ) → next < 2 ^ 32 → bit_at next (get_or cells i 0) ≡ 0
      → ((x : ℕ) → x < 32 → x ≢ get_or cells i 0 → bit_at next x ≡ bit_at free x)
      → IsRanking cells count (i + 1) next (room - 1) (rank * room + ones_below free (get_or cells i 0))
  IsRanking-more next bits clear same = record {
    left = (let l = h.left in let r = IsRanking-room.0 in omega arith);
    few = h.few;
    bits = bits;
    free_count = (let e = count-clear free next (get_or cells i 0) (h.inside i here) (h.coming i (omega arith) here) clear same in
        let f = h.free_count in omega arith);
    fits = IsRanking-room.1;
    inside = h.inside;
    coming = (λ j low l. same (get_or cells j 0) (h.inside j l) (λ e. let z : j ≡ i = apart_at cells apart j i l here e in omega arith)
        ∙ h.coming j (omega arith) l);
    whole = (λ r e.
        let m : length cells - i ≡ suc (length cells - (i + 1)) = omega arith in
        let one = h.coming i (omega arith) here in
        let found = step (length cells - (i + 1)) free next (get_or cells i 0) (h.inside i here) one clear same r (drop (i + 1) cells) e in
        let room_is = h.free_count in
        let some = IsRanking-room.0 in
        ap (slice_get (lists_of (length cells) (range_with_len 0 count))) (
        sym (regroup rank room (falling_factorial (room - 1) (length cells - (i + 1))) (ones_below free (get_or cells i 0)) r) ∙
        ap (λ k. rank * falling_factorial room k + (ones_below free (get_or cells i 0) * falling_factorial (room - 1) (length cells - (i + 1)) + r)) (sym m)) ∙
        h.whole (ones_below free (get_or cells i 0) * falling_factorial (room - 1) (length cells - (i + 1)) + r) (
        ap (λ k. slice_get (lists_of k (numbers_of free)) (ones_below free (get_or cells i 0) * falling_factorial (room - 1) (length cells - (i + 1)) + r)) m ∙
        ap (λ k. slice_get (lists_of (suc (length cells - (i + 1))) (numbers_of free))
        (ones_below free (get_or cells i 0) * falling_factorial (k - 1) (length cells - (i + 1)) + r)) (sym room_is) ∙
        found ∙
        ap Some (sym (drop_more cells i 0 here))));
  }

-- once all cells are ranked, the rank is their list's place among all lists
pub IsRanking-all : (cells : List ℕ) (count i free room rank : ℕ) → IsRanking cells count i free room rank → length cells ≤ i → i ≤ length cells
    → slice_get (lists_of (length cells) (range_with_len 0 count)) rank ≡ Some cells
IsRanking-all cells count i free room rank h low high =
    let none : length cells - i ≡ 0 = omega arith in
    ap (slice_get (lists_of (length cells) (range_with_len 0 count)))
    ((let e : rank ≡ rank * 1 + 0 = omega arith in e) ∙ ap (λ k. rank * falling_factorial room k + 0) (sym none)) ∙
    h.whole 0 (ap (λ k. slice_get (lists_of k (numbers_of free)) 0) none ∙ ap Some (sym (drop_all i cells low)))

-- ---- a placement

-- what the first i cells and the rank of the others among the free cells say of the rank of them all
pub record IsUnranking (size count rank : ℕ) (cells : List ℕ) (i free block rest : ℕ) : Type 0 where
  pub small : count ≤ 25
  pub few : size ≤ 8
  pub room : size ≤ count
  pub upto : i ≤ size
  pub bits : free < 2 ^ 32
  pub free_count : length (numbers_of free) + i ≡ count
  pub block_is : block ≡ falling_factorial (count - i) (size - i)
  pub less : rest < block
  pub long : length cells ≡ 8
  pub zeros : drop i cells ≡ replicate (8 - i) 0
  pub whole : (q : List ℕ) → slice_get (lists_of (size - i) (numbers_of free)) rest ≡ Some q
      → slice_get (lists_of size (range_with_len 0 count)) rank ≡ Some (take i cells ++ q)

-- before a cell is put down, all cells are free, the block is all ranks, and the whole rank is left
pub IsUnranking-start : (size count rank ranks : ℕ) → count ≤ 25 → size ≤ 8 → size ≤ count → ranks ≡ length (lists_of size (range_with_len 0 count))
    → rank < ranks
    → IsUnranking size count rank (replicate 8 0) 0 (2 ^ count - 1) ranks rank
IsUnranking-start size count rank ranks small few room is below = record {
  small = small;
  few = few;
  room = room;
  upto = omega arith;
  bits = (let up : 2 ^ count ≤ 2 ^ 31 = pow-le-pow_right (lit< tt) (let l : count ≤ 31 = omega arith in l) in omega arith);
  free_count = (let e : length (numbers_of (2 ^ count - 1)) ≡ count = ap length full ∙ length-range_with_len 0 count in omega arith);
  block_is = is ∙ length_lists size (range_with_len 0 count) (apart_from_ascending (range_with_len 0 count) (ascending-range 0 count))
      ∙ ap₂ falling_factorial (length-range_with_len 0 count ∙ (let e : count ≡ count - 0 = omega arith in e)) (let e : size ≡ size - 0 = omega arith in e);
  less = below;
  long = refl;
  zeros = refl;
  whole = (λ q e. ap (λ cs. slice_get (lists_of size cs) rank) (sym full)
      ∙ ap (λ k. slice_get (lists_of k (numbers_of (2 ^ count - 1))) rank) (let e : size ≡ size - 0 = omega arith in e) ∙ e);
}
  where
    full : numbers_of (2 ^ count - 1) ≡ range_with_len 0 count
    full = numbers_below-full 32 count (omega arith)

module _ (size count rank : ℕ) (cells : List ℕ) (i free block rest : ℕ) (h : IsUnranking size count rank cells i free block rest) (here : i < size) where
  -- while a cell is to be put down, some cell is free
  pub IsUnranking-cells : 0 < count - i
  IsUnranking-cells = let r = h.room in omega arith

  product : block ≡ falling_factorial (count - i - 1) (size - (i + 1)) * (count - i) + 0
  product =
      h.block_is ∙
      ap (falling_factorial (count - i)) (let e : size - i ≡ suc (size - (i + 1)) = omega arith in e) ∙
      (let e = mul_comm (count - i) (falling_factorial (count - i - 1) (size - (i + 1))) in omega arith)

  quotient : block / (count - i) ≡ falling_factorial (count - i - 1) (size - (i + 1))
  quotient = ap (λ x. x / (count - i)) product ∙ div-mul-add (falling_factorial (count - i - 1) (size - (i + 1))) (count - i) 0 IsUnranking-cells

  divides : block ≡ (count - i) * (block / (count - i))
  divides = product ∙ (let e = mul_comm (falling_factorial (count - i - 1) (size - (i + 1))) (count - i) in omega arith)
      ∙ ap (λ x. (count - i) * x) (sym quotient)

  -- while a cell is to be put down, the block divided by the number of free cells is not 0
  pub IsUnranking-block : 0 < block / (count - i)
  IsUnranking-block = elim (cases_eq (block / (count - i)) 0) [
    | inl e ↦ absurd (let l = h.less in let z : block ≡ 0 = divides ∙ ap (λ x. (count - i) * x) e ∙ mul-zero (count - i) in omega arith)
    | inr ne ↦ omega arith
  ]

  -- the cell's place is below the count of free cells
  pub IsUnranking-place : rest / (block / (count - i)) < count - i
  IsUnranking-place = div_below rest (block / (count - i)) (count - i) IsUnranking-block (let l = h.less in let e = divides in omega arith)

  -- what is left of the rank, divided by the smaller block, is the place of a free cell
  pub IsUnranking-free : rest / (block / (count - i)) < count_ones free
  IsUnranking-free = let l = IsUnranking-place in let e = length-numbers_below 32 free h.bits in let f = h.free_count in omega arith

  -- the free cell at that place is put down, and the remainder is what is left of the rank
  pub IsUnranking-more : (cell next : ℕ) → cell < 32 → bit_at free cell ≡ 1 → ones_below free cell ≡ rest / (block / (count - i)) → next < 2 ^ 32
      → bit_at next cell ≡ 0
      → ((x : ℕ) → x < 32 → x ≢ cell → bit_at next x ≡ bit_at free x)
      → IsUnranking size count rank (set cells i cell) (i + 1) next (block / (count - i)) (rest % (block / (count - i)))
  IsUnranking-more cell next below one place bits clear same = record {
    small = h.small;
    few = h.few;
    room = h.room;
    upto = omega arith;
    bits = bits;
    free_count = (let e = count-clear free next cell below one clear same in let f = h.free_count in omega arith);
    block_is = quotient ∙ ap (λ k. falling_factorial k (size - (i + 1))) (let e : count - i - 1 ≡ count - (i + 1) = omega arith in e);
    less = mod_below rest (block / (count - i)) IsUnranking-block;
    long = length-set cells i cell ∙ h.long;
    zeros =
        drop-set-lt (i + 1) cells i cell (omega arith) ∙
        sym (drop-drop 1 i cells) ∙
        ap (drop 1) h.zeros ∙
        drop-replicate 1 (8 - i) 0 ∙
        ap (λ k. replicate k 0) (let e : 8 - i - 1 ≡ 8 - (i + 1) = omega arith in e);
    whole = (λ q e.
        let count_is = h.free_count in
        let m : suc (size - (i + 1)) ≡ size - i = omega arith in
        let left : length (numbers_of free) - 1 ≡ count - i - 1 = omega arith in
        let at_rest : ones_below free cell * falling_factorial (length (numbers_of free) - 1) (size - (i + 1)) + rest % (block / (count - i)) ≡ rest =
        ap₂ (λ x y. x * y + rest % (block / (count - i))) place (ap (λ k. falling_factorial k (size - (i + 1))) left ∙ sym quotient) ∙
        div-add-mod' rest (block / (count - i)) in
        let found = step (size - (i + 1)) free next cell below one clear same (rest % (block / (count - i))) q e in
        let inside : i < length cells = (let l = h.long in let f = h.few in omega arith) in
        h.whole (cell ∷ q) (
        ap₂ (λ k r. slice_get (lists_of k (numbers_of free)) r) (sym m) (sym at_rest) ∙ found) ∙
        ap Some (sym (append_assoc (take i cells) (cell ∷ []) q) ∙ ap (λ xs. xs ++ q) (sym (take_more_set cells i cell inside))));
  }

-- once all cells are put down, they are the list of the rank, and zeros are behind them
pub IsUnranking-all : (size count rank : ℕ) (cells : List ℕ) (i free block rest : ℕ) → IsUnranking size count rank cells i free block rest → size ≤ i
    → (slice_get (lists_of size (range_with_len 0 count)) rank ≡ Some (take size cells)) × (drop size cells ≡ replicate (8 - size) 0)
IsUnranking-all size count rank cells i free block rest h l =
    let same : i ≡ size = (let u = h.upto in omega arith) in
    let none : size - i ≡ 0 = omega arith in
    let one : block ≡ 1 = h.block_is ∙ ap (falling_factorial (count - i)) none in
    let zero_rest : rest ≡ 0 = (let l = h.less in omega arith) in (
      h.whole [] (ap₂ (λ k r. slice_get (lists_of k (numbers_of free)) r) none zero_rest) ∙ ap Some (append-nil (take i cells) ∙ ap (λ k. take k cells) same),
      subst (λ k. drop k cells ≡ replicate (8 - k) 0) same h.zeros,
    )
