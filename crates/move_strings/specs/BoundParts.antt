-- The parts of a bound: a share each of the strings that may be the least solution.
use Rattle.std.specs.Prelude.{◌≡◌, ℕ, zero, suc, ◌+◌, ◌*◌, ◌^◌, ◌%◌, ◌<◌, ◌≤◌, nat_le, if◌then◌else◌, ◌⊎◌, List, [], ◌∷◌, length, take}
use Rattle.puz_board.specs.Boards.{IsBoardOf}
use Rattle.puz_board.specs.Paths.{IsSolution}
use Rattle.puz_board.specs.declared.moves.Move.{Move}
use Rattle.move_strings.specs.Least.{IsLeastSolution}
use Rattle.move_strings.specs.Strings.{rank_of}

-- ---- parts

-- what a contract sees of a part: its index, from 0 on, and how many parts there are
pub record ShownPart : Type 0 where
  pub index : ℕ
  pub count : ℕ

-- one of an odd count of parts, 65,535 at most
pub record IsPart (p : ShownPart) : Type 0 where
  pub below : p.index < p.count
  pub odd : p.count % 2 ≡ 1
  pub few : p.count ≤ 65535

-- ---- what is of a part

-- how many of the first k powers of 4, which are 1, 4, 16 and so on, are no larger than n
abbrev pub powers_within : ℕ → ℕ → ℕ
powers_within zero n = 0
powers_within (suc k) n = powers_within k n + (if nat_le (4 ^ k) n then 1 else 0)

-- as many digits n has to the base 4, where it is at most 65,535
abbrev pub digits_of : ℕ → ℕ
digits_of n = powers_within 8 n

-- so many first letters tell the part: 12 more than the count of parts has digits to the base 4
abbrev pub letters_of : ShownPart → ℕ
letters_of p = 12 + digits_of p.count

-- the number whose digits to the base 4 are those of n, and then the ranks of the moves
abbrev pub rank_after : ℕ → List Move → ℕ
rank_after n [] = n
rank_after n (m ∷ ms) = rank_after (4 * n + rank_of m) ms

-- the moves read as a number to the base 4, which is their rank among the strings of as many letters
abbrev pub string_rank : List Move → ℕ
string_rank moves = rank_after 0 moves

-- the moves are too few to tell a part, and so of each; or the rank of the first of them, divided by the count of parts, leaves
-- the index
abbrev pub IsOfPart : ShownPart → List Move → Type 0
IsOfPart p moves = (length moves < letters_of p) ⊎ (string_rank (take (letters_of p) moves) % p.count ≡ p.index)

-- ---- parts of a bound

-- the least solution of fewer than n moves, if the board has one, isn't of the part
abbrev pub IsPartBounded : ShownPart → ℕ → List ℕ → Type 0
IsPartBounded p n b = (moves : List Move) → IsOfPart p moves → ¬ IsLeastSolution b n moves

-- where this holds of each of some parts, no solution of the board has fewer than n moves
abbrev pub PartsGiveTheBound : Type 0
PartsGiveTheBound =
    (side : ℕ) (b : List ℕ) → IsBoardOf side b → (n count : ℕ) → 0 < count →
    ((index : ℕ) → index < count → IsPartBounded (record { index = index; count = count }) n b) →
    (path : List ℕ) → IsSolution b path → n ≤ length path
