-- How many slots the placements of a pattern have.
use Rattle.std.proofs.Common.{◌≡◌, ℕ, zero, suc, ◌*◌, ◌^◌, ◌<◌, ◌≤◌, Bool, true, length, inl, inr, refl, sym, ◌∙◌, ap, subst, arith, ltb, ltb-true}
use Rattle.std.specs.Prelude.{◌&&◌}
use Rattle.std.proofs.lemmas.Bool.{and_parts, cases_eq}
use Rattle.puz_board.proofs.CellLemmas.{by_side}
use Rattle.pat_place.specs.Patterns.{ShownPattern, IsPattern, most_tiles, width}
use Rattle.pat_place.specs.Ranks.{falling_factorial, placements}
use Rattle.pat_place.proofs.RankLemmas.{count_of_placements}

-- a test at each number below n
abbrev pub holds_below : (ℕ → Bool) → ℕ → Bool
holds_below test zero = true
holds_below test (suc n) = test n && holds_below test n

-- a test that holds at all numbers below n holds at each one of them
pub holds_at : (test : ℕ → Bool) (n k : ℕ) → holds_below test n ≡ true → k < n → test k ≡ true
holds_at test zero k all l = absurd (omega arith)
holds_at test (suc n) k all l =
    let parts = and_parts (test n) (holds_below test n) all in
    elim (cases_eq k n) [ inl e ↦ ap test e ∙ parts.0 | inr ne ↦ holds_at test n k parts.1 (omega arith) ]

abbrev test : ℕ → ℕ → Bool
test n k = ltb (falling_factorial (n * n) k * width n k) 4294967296 && ltb (falling_factorial (n * n) k) 4294967296

at_side : (n : ℕ) → 2 ≤ n → n ≤ 5 → (k : ℕ) → k ≤ most_tiles n → test n k ≡ true
at_side = by_side (λ n. (k : ℕ) → k ≤ most_tiles n → test n k ≡ true)
    (λ k l. holds_at (test 2) 4 k refl (omega arith))
    (λ k l. holds_at (test 3) 9 k refl (omega arith))
    (λ k l. holds_at (test 4) 9 k refl (omega arith))
    (λ k l. holds_at (test 5) 7 k refl (omega arith))

tested : (p : ShownPattern) → IsPattern p → (falling_factorial (p.side * p.side) (length p.tiles) * width p.side (length p.tiles) < 2 ^ 32)
    × (falling_factorial (p.side * p.side) (length p.tiles) < 2 ^ 32)
tested p good =
    let count = falling_factorial (p.side * p.side) (length p.tiles) in
    let parts = and_parts (ltb (count * width p.side (length p.tiles)) 4294967296) (ltb count 4294967296)
    (at_side p.side good.low good.high (length p.tiles) good.most) in
    (ltb-true (count * width p.side (length p.tiles)) 4294967296 parts.0, ltb-true count 4294967296 parts.1)

-- the placements of a pattern, with W slots for each, have fewer than 2^32 slots
pub few_slots : (p : ShownPattern) → IsPattern p → length (placements p.side (length p.tiles)) * width p.side (length p.tiles) < 2 ^ 32
few_slots p good = subst (λ k. k * width p.side (length p.tiles) < 2 ^ 32) (sym (count_of_placements p.side (length p.tiles))) (tested p good).0

-- a pattern has fewer than 2^32 placements
pub few_placements : (p : ShownPattern) → IsPattern p → length (placements p.side (length p.tiles)) < 2 ^ 32
few_placements p good = subst (λ k. k < 2 ^ 32) (sym (count_of_placements p.side (length p.tiles))) (tested p good).1
