-- Which boards have solutions, by parity (Johnson and Story 1879).
use Rattle.std.specs.Prelude.{◌≡◌, ℕ, ◌+◌, ◌%◌, nat_lt, List, [], ◌∷◌, count_by}
use Rattle.puz_board.specs.Parity.{blank_parity}

-- how many pairs of numbers stand in the wrong order: the greater one before the smaller one
abbrev pub inversions : List ℕ → ℕ
inversions [] = 0
inversions (x ∷ xs) = count_by (λ y. nat_lt y x) xs + inversions xs

-- the count of such pairs on a board has the parity of the blank's distance from cell 0
abbrev pub HasTheBlanksParity : List ℕ → Type 0
HasTheBlanksParity b = inversions b % 2 ≡ blank_parity b
