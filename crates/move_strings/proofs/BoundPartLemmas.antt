-- All parts of a bound give the bound.
use Rattle.std.proofs.Common.{ℕ, zero, suc, ◌^◌, ◌%◌, ◌<◌, ◌≤◌, List, length, take, inr, refl, arith}
use Rattle.puz_board.specs.Boards.{IsBoardOf}
use Rattle.puz_board.specs.Paths.{IsSolution}
use Rattle.puz_board.specs.declared.moves.Move.{Move}
use Rattle.move_strings.specs.BoundParts.{IsPartBounded, letters_of, string_rank}
use Rattle.move_strings.specs.Least.{IsLeastSolution}
use Rattle.move_strings.proofs.LeastLemmas.{no_least-bound}

-- where each part of a bound holds, the board has no least solution
none_of_all : (b : List ℕ) (n count : ℕ) → 0 < count → ((index : ℕ) → index < count → IsPartBounded (record { index = index; count = count }) n b)
    → (moves : List Move) → ¬ IsLeastSolution b n moves
none_of_all b n count some parts moves least =
    let index = string_rank (take (letters_of (record { index = 0; count = count })) moves) % count in
    let below : index < count = omega arith in
    parts index below moves (inr refl) least

-- where all parts of a bound hold of a board, no solution has fewer moves than the bound
pub of_all_parts : (side : ℕ) (b : List ℕ) → IsBoardOf side b → (n count : ℕ) → 0 < count
    → ((index : ℕ) → index < count → IsPartBounded (record { index = index; count = count }) n b) → (path : List ℕ) → IsSolution b path → n ≤ length path
of_all_parts side b good n count some parts path solves = no_least-bound side b good n (none_of_all b n count some parts) path solves

-- ---- powers of 4

-- the powers of 4 up to the seventh fit in 32 bits
pub small_power : (k : ℕ) → k < 8 → 4 ^ k < 4294967296
small_power zero low = omega arith
small_power (suc zero) low = omega arith
small_power (suc (suc zero)) low = omega arith
small_power (suc (suc (suc zero))) low = omega arith
small_power (suc (suc (suc (suc zero)))) low = omega arith
small_power (suc (suc (suc (suc (suc zero))))) low = omega arith
small_power (suc (suc (suc (suc (suc (suc zero)))))) low = omega arith
small_power (suc (suc (suc (suc (suc (suc (suc zero))))))) low = omega arith
small_power (suc (suc (suc (suc (suc (suc (suc (suc k)))))))) low = absurd (omega arith)
