-- Masks that grow over free cells, one by one and in columns.
use Rattle.std.proofs.Common.{◌≡◌, ◌≢◌, ℕ, ◌+◌, ◌-◌, ◌*◌, ◌/◌, ◌%◌, ◌^◌, ◌<◌, ◌≤◌, inl, inr, List, length, get_or, replicate, bit_and, bit_or, sym}
use Rattle.std.proofs.Common.{◌∙◌, subst, arith, Fits, w32}
use Rattle.std.proofs.lemmas.Bool.{cases_lt}
use Rattle.std.proofs.lemmas.Simd.{Each1-get_or, length-chunk, get_or-chunk, length-put_chunk, get_or-put_chunk_below, get_or-put_chunk_at}
use Rattle.std.proofs.lemmas.Simd.{get_or-put_chunk_above}
use lib.Lanes.{Each1, zip2, chunk, put_chunk}
use Rattle.puz_board.specs.Masks.{IsMaskOf}
use Rattle.puz_board.proofs.GrownLemmas.{grown_is, outside_column}
use Rattle.puz_board.proofs.BitLemmas.{IsIn}
use Rattle.tab_lanes.specs.Floods.{AllMayGrow, AreGrown, IsAStepAway}
use Rattle.tab_lanes.specs.FloodSteps.{AreEntered, AreGrownBetween}
use Rattle.tab_lanes.proofs.FlagLemmas.{AreLanes, lanes_given, splat, lane_by_lane}

-- ---- one step in vectors

-- a mask shifted up by so many bits, cut to 32 bits
abbrev pub left_by : ℕ → ℕ → ℕ
left_by m k = m * 2 ^ k % 2 ^ 32

-- a mask shifted down by so many bits
abbrev pub right_by : ℕ → ℕ → ℕ
right_by m k = m / 2 ^ k

-- in each lane, the free cells one row above or below a cell of the mask
abbrev pub up_down : ℕ → ℕ → List ℕ → List ℕ → List ℕ
up_down n row masks free = zip2 bit_and (zip2 bit_or (zip2 left_by masks (replicate n row)) (zip2 right_by masks (replicate n row))) free

-- in each lane, the cells that the mask's cells enter by steps to the right and to the left
abbrev pub side_ways : ℕ → List ℕ → List ℕ → List ℕ → List ℕ
side_ways n masks right left = zip2 bit_or (zip2 bit_and (zip2 left_by masks (replicate n 1)) right) (zip2 bit_and (zip2 right_by masks (replicate n 1)) left)

-- in each lane, the mask with the cells that steps up, down, right and left enter
abbrev pub grown_lanes : ℕ → ℕ → List ℕ → List ℕ → List ℕ → List ℕ → List ℕ
grown_lanes n row masks free right left = zip2 bit_or (zip2 bit_or masks (up_down n row masks free)) (side_ways n masks right left)

module _ (n side : ℕ) (masks free right left : List ℕ) (low : 2 ≤ side) (high : side ≤ 5) (free_long : length free ≡ n)
    (right_long : length right ≡ n) (left_long : length left ≡ n)
    (grow : AllMayGrow side masks free) (entered : (i : ℕ) → i < n → AreEntered side (get_or free i 0) (get_or right i 0) (get_or left i 0)) where
  masks_long : length masks ≡ n
  masks_long = grow.lengths ∙ free_long

  shifted_left : (k : ℕ) → AreLanes n (zip2 left_by masks (replicate n k)) (λ j. left_by (get_or masks j 0) k)
  shifted_left k = lane_by_lane n left_by masks (replicate n k) (lanes_given n masks masks_long) (splat n k)

  shifted_right : (k : ℕ) → AreLanes n (zip2 right_by masks (replicate n k)) (λ j. right_by (get_or masks j 0) k)
  shifted_right k = lane_by_lane n right_by masks (replicate n k) (lanes_given n masks masks_long) (splat n k)

  abbrev up_down_lane : ℕ → ℕ
  up_down_lane j = bit_and (bit_or (left_by (get_or masks j 0) side) (right_by (get_or masks j 0) side)) (get_or free j 0)

  abbrev side_ways_lane : ℕ → ℕ
  side_ways_lane j = bit_or (bit_and (left_by (get_or masks j 0) 1) (get_or right j 0)) (bit_and (right_by (get_or masks j 0) 1) (get_or left j 0))

  up_down_is : AreLanes n (up_down n side masks free) up_down_lane
  up_down_is =
      lane_by_lane n bit_and (zip2 bit_or (zip2 left_by masks (replicate n side)) (zip2 right_by masks (replicate n side))) free
      (lane_by_lane n bit_or (zip2 left_by masks (replicate n side)) (zip2 right_by masks (replicate n side)) (shifted_left side)
      (shifted_right side)) (lanes_given n free free_long)

  side_ways_is : AreLanes n (side_ways n masks right left) side_ways_lane
  side_ways_is =
      lane_by_lane n bit_or (zip2 bit_and (zip2 left_by masks (replicate n 1)) right) (zip2 bit_and (zip2 right_by masks (replicate n 1)) left)
      (lane_by_lane n bit_and (zip2 left_by masks (replicate n 1)) right (shifted_left 1) (lanes_given n right right_long))
      (lane_by_lane n bit_and (zip2 right_by masks (replicate n 1)) left (shifted_right 1) (lanes_given n left left_long))

  grown_is_lanes : AreLanes n (grown_lanes n side masks free right left) (λ j. bit_or (bit_or (get_or masks j 0) (up_down_lane j)) (side_ways_lane j))
  grown_is_lanes =
      lane_by_lane n bit_or (zip2 bit_or masks (up_down n side masks free)) (side_ways n masks right left)
      (lane_by_lane n bit_or masks (up_down n side masks free) (lanes_given n masks masks_long) up_down_is) side_ways_is

  -- one step in vectors adds to each mask the free cells beside its cells
  pub all_stepped : AreGrown (IsAStepAway side) masks free (grown_lanes n side masks free right left)
  all_stepped = record { len = grown_is_lanes.len ∙ sym masks_long; each = each }
    where
      each : (i : ℕ) → i < length masks → IsMaskOf (get_or (grown_lanes n side masks free right left) i 0)
          (IsAStepAway side (get_or free i 0) (get_or masks i 0))
      each i l =
          let inside : i < n = let e = masks_long in omega arith in
          let may = grow.each i (omega arith) l in
          let is = entered i inside in
          subst (λ m. IsMaskOf m (IsAStepAway side (get_or free i 0) (get_or masks i 0))) (sym (grown_is_lanes.lanes i inside)) (
          grown_is side low high (get_or free i 0) (get_or right i 0) (get_or left i 0) (get_or masks i 0) may.on_board is.right_is is.left_is may.inside)

-- ---- the cells that steps to the right and to the left enter

-- in each lane, the free cells outside a column of the board
abbrev pub outside : ℕ → List ℕ → ℕ → List ℕ
outside n free column = zip2 bit_and free (replicate n (2 ^ 32 - 1 - column))

module _ (n side first last : ℕ) (masks free : List ℕ) (free_long : length free ≡ n) (free_fits : Each1 (Fits w32) free) (grow : AllMayGrow side masks free)
    (first_fits : first < 2 ^ 32) (last_fits : last < 2 ^ 32) (first_is : IsMaskOf first (λ c. (c < side * side) × (c % side ≡ 0)))
    (last_is : IsMaskOf last (λ c. (c < side * side) × (c % side ≡ side - 1))) where
  outside_is : (column : ℕ) → AreLanes n (outside n free column) (λ j. bit_and (get_or free j 0) (2 ^ 32 - 1 - column))
  outside_is column = lane_by_lane n bit_and free (replicate n (2 ^ 32 - 1 - column)) (lanes_given n free free_long) (splat n (2 ^ 32 - 1 - column))

  -- free cells but those of the first column are entered to the right, and those but the last column's to the left
  pub all_entered : (i : ℕ) → i < n → AreEntered side (get_or free i 0) (get_or (outside n free first) i 0) (get_or (outside n free last) i 0)
  all_entered i l =
      let may = grow.each i (omega arith) (let e = grow.lengths in omega arith) in
      let fits = (Each1-get_or (Fits w32) free i 0 (omega arith) free_fits).fits in
      record {
        right_is = subst (λ m. IsMaskOf m (λ c. IsIn (get_or free i 0) c × (c % side ≢ 0))) (sym ((outside_is first).lanes i l)) (
            outside_column side 0 (get_or free i 0) first fits first_fits may.on_board first_is);
        left_is = subst (λ m. IsMaskOf m (λ c. IsIn (get_or free i 0) c × (c % side ≢ side - 1))) (sym ((outside_is last).lanes i l)) (
            outside_column side (side - 1) (get_or free i 0) last fits last_fits may.on_board last_is);
      }

-- ---- n masks of a column

module _ (from at n : ℕ) (masks free now : List ℕ) (Has : ℕ → ℕ → ℕ → Type 0) (room : at + n ≤ length now) (on : from ≤ at)
    (so_far : AreGrownBetween Has masks free from at now) where
  same_mask : (j : ℕ) → j < n → get_or (chunk at n now) j 0 ≡ get_or masks (at + j) 0
  same_mask j l = get_or-chunk at n now j 0 l ∙ so_far.kept (at + j) (inr (omega arith))

  module _ (block : List ℕ) (grown_block : AreGrown Has (chunk at n now) (chunk at n free) block) where
    block_long : length block ≡ n
    block_long = grown_block.len ∙ length-chunk at n now room

    in_block : (j : ℕ) → j < n → IsMaskOf (get_or (put_chunk at now block) (at + j) 0) (Has (get_or free (at + j) 0) (get_or masks (at + j) 0))
    in_block j l =
        let stored = get_or-put_chunk_at at now block j 0 (let e = block_long in omega arith) (let e = block_long in omega arith) in
        subst (λ F. F) (λ i. IsMaskOf (sym stored i) (Has (get_or-chunk at n free j 0 l i) (same_mask j l i)))
        (grown_block.each j (let e = length-chunk at n now room in omega arith))

    -- a block of n masks that have grown, put in behind those that have, makes the column grown n places further
    pub grown_more : AreGrownBetween Has masks free from (at + n) (put_chunk at now block)
    grown_more = record {
      len = length-put_chunk at now block ∙ so_far.len;
      grown = (λ i low high. elim (cases_lt i at) [
        | inl l ↦ subst (λ m. IsMaskOf m (Has (get_or free i 0) (get_or masks i 0))) (sym (get_or-put_chunk_below at now block i 0 l)) (so_far.grown i low l)
        | inr l ↦ subst (λ k. IsMaskOf (get_or (put_chunk at now block) k 0) (Has (get_or free k 0) (get_or masks k 0)))
            (let e : at + (i - at) ≡ i = omega arith in e) (in_block (i - at) (omega arith))
      ]);
      kept = (λ i where_it_is. elim where_it_is [
        | inl l ↦ get_or-put_chunk_below at now block i 0 (omega arith) ∙ so_far.kept i (inl l)
        | inr l ↦ get_or-put_chunk_above at now block i 0 (let e = block_long in omega arith) ∙ so_far.kept i (inr (omega arith))
      ]);
    }
