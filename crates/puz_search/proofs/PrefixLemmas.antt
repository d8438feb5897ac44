-- The rank of the letters that have been read is small.
use Rattle.std.proofs.Common.{◌≡◌, ℕ, suc, ◌+◌, ◌-◌, ◌*◌, ◌^◌, ◌<◌, ◌≤◌, subst, arith}
use Rattle.std.proofs.Math.Pow.{pow_mono}

-- there is room for one more
pub rank_fits : (ahead rank : ℕ) → rank < 2 ^ (2 * (20 - ahead)) → rank < 2 ^ 40
rank_fits ahead rank small = let most : 2 ^ (2 * (20 - ahead)) ≤ 2 ^ 40 = pow_mono {i = 2 * (20 - ahead)} {j = 40} (omega arith) in omega arith

-- with one letter more, the rank of the letters is still small for how many are to come
pub rank_small : (ahead rank letter : ℕ) → (ahead ≡ 0 → ⊥) → ahead ≤ 20 → rank < 2 ^ (2 * (20 - ahead)) → letter < 4
    → 4 * rank + letter < 2 ^ (2 * (20 - (ahead - 1)))
rank_small ahead rank letter some few small low =
    let more : suc (suc (2 * (20 - ahead))) ≡ 2 * (20 - (ahead - 1)) = omega arith in
    subst (λ k. 4 * rank + letter < 2 ^ k) more (doubled (2 * (20 - ahead)) small)
  where
    doubled : (k : ℕ) → rank < 2 ^ k → 4 * rank + letter < 2 ^ (suc (suc k))
    doubled k low_rank = omega arith
