-- Bytes counted a vector at a time.
use Rattle.std.proofs.Common.{◌≡◌, ℕ, ◌+◌, ◌%◌, ◌^◌, ◌≤◌, Bool, cond, eqb, List, map, length, take, replicate, count_ones, sym, ap, ap₂, ◌∙◌, arith}
use Rattle.std.proofs.Common.{w8, take-add}
use Rattle.std.specs.Prelude.{count_by}
use Rattle.std.proofs.lemmas.List.Sums.{count_by-le-length, sum_by-append}
use Rattle.std.proofs.lemmas.List.{length-take-le}
use Rattle.std.proofs.lemmas.Simd.{bitmask_splat, ones-mask_l, length-chunk}
use lib.Lanes.{zip2, mask_l, top, chunk}

module _ (byte n : ℕ) (xs : List ℕ) (at : ℕ) (few : n ≤ 64) (room : at + n ≤ length xs) where
  abbrev is_it : ℕ → Bool
  is_it x = eqb x byte

  -- the bits of a comparison, counted
  ones_counted : count_ones (mask_l (map (top 7) (zip2 (λ a b. cond (eqb a b) 255 0) (chunk at n xs) (replicate n byte))) % 2 ^ 64) ≡ count_by is_it
      (chunk at n xs)
  ones_counted = ap count_ones (bitmask_splat w8 eqb (chunk at n xs) n byte (length-chunk at n xs room) few) ∙ ones-mask_l is_it (chunk at n xs)

  module _ (count ones : ℕ) (before : count ≡ count_by is_it (take at xs))
      (counted : ones ≡ count_ones (mask_l (map (top 7) (zip2 (λ a b. cond (eqb a b) 255 0) (chunk at n xs) (replicate n byte))) % 2 ^ 64)) where
    -- the ones of a compared vector, added to the count so far, count that byte up to the vector's end
    pub counted_more : count + ones ≡ count_by is_it (take (at + n) xs)
    counted_more =
        ap₂ (λ a b. a + b) before (counted ∙ ones_counted) ∙
        sym (ap (count_by is_it) (take-add at n xs) ∙ sum_by-append (λ x. cond (is_it x) 1 0) (take at xs) (chunk at n xs))

    -- the count with the ones of a vector added is at most the number of bytes
    pub counted_few : count + ones ≤ length xs
    counted_few =
        let e = counted_more in
        let most = count_by-le-length is_it (take (at + n) xs) in
        let long = length-take-le (at + n) xs room in
        omega arith
