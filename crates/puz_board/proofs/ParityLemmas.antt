-- Each step of the blank changes the parity of its distance from cell 0.
use Rattle.std.proofs.Common.{◌≡◌, ℕ, suc, ◌+◌, ◌*◌, ◌%◌, ◌<◌, ◌≤◌, ◌⊎◌, List, [], ◌∷◌, length, inl, inr, sym, ◌∙◌, ap, subst, arith}
use Rattle.puz_board.specs.Boards.{IsBoardOf, IsGoal, blank, slid}
use Rattle.puz_board.specs.Cells.{Adjacent}
use Rattle.puz_board.specs.Parity.{blank_parity, taxicab}
use Rattle.puz_board.specs.Paths.{IsPath, IsSolution, after}
use Rattle.puz_board.proofs.BoardLemmas.{IsBoardOf-slid, blank-slid, cell_of-below, cell_of-is, cells_least, side_of-board}
use Rattle.puz_board.proofs.CellLemmas.{step_of-beside}

-- of two cells beside each other one is farther by one
farther : (n : ℕ) → 2 ≤ n → n ≤ 5 → (c d : ℕ) → c < n * n → Adjacent n c d → (taxicab n c + 1 ≡ taxicab n d) ⊎ (taxicab n d + 1 ≡ taxicab n c)
farther n low high c d l is = elim (step_of-beside n c is.1 d low high l is.2) [
  | inl in_row ↦ let same = in_row.0 in elim in_row.1 [ inl e ↦ inl (omega arith) | inr e ↦ inr (omega arith) ]
  | inr in_column ↦ let same = in_column.0 in elim in_column.1 [ inl e ↦ inl (omega arith) | inr e ↦ inr (omega arith) ]
]

flips : (n : ℕ) → 2 ≤ n → n ≤ 5 → (c d k : ℕ) → c < n * n → Adjacent n c d → k % 2 ≡ taxicab n d % 2 → suc k % 2 ≡ taxicab n c % 2
flips n low high c d k l is even = elim (farther n low high c d l is) [ inl e ↦ omega arith | inr e ↦ omega arith ]

home_zero : (n : ℕ) (b : List ℕ) → IsBoardOf n b → IsGoal b → blank b ≡ 0
home_zero n b good goal = cell_of-is n b good 0 0 (let l = cells_least n b good in
    omega arith) (goal 0 (let s = good.size in let l = cells_least n b good in omega arith))

zero_away : (n : ℕ) → 2 ≤ n → n ≤ 5 → taxicab n 0 % 2 ≡ 0
zero_away n low high = omega arith

path_parity : (n : ℕ) (path b : List ℕ) → IsBoardOf n b → IsPath n (blank b) path → IsGoal (after b path) → length path % 2 ≡ taxicab n (blank b) % 2
path_parity n [] b good walk goal = sym (ap (λ c. taxicab n c % 2) (home_zero n b good goal) ∙ zero_away n good.low good.high)
path_parity n (c ∷ cs) b good walk goal =
    let there = blank-slid n b good c walk.0.0 in
    let rest : length cs % 2 ≡ taxicab n (blank (slid b c)) % 2 =
    path_parity n cs (slid b c) (IsBoardOf-slid n b good c walk.0.0) (subst (λ x. IsPath n x cs) (sym there) walk.1) goal in
    flips n good.low good.high (blank b) c (length cs) (cell_of-below n b good 0 (let l = cells_least n b good in omega arith)) walk.0
    (rest ∙ ap (λ x. taxicab n x % 2) there)

-- the number of steps of a solution is even or odd as the distance of the blank from cell 0
pub solution_parity : (n : ℕ) (b : List ℕ) → IsBoardOf n b → (path : List ℕ) → IsSolution b path → length path % 2 ≡ blank_parity b
unfolding blank_parity
solution_parity n b good path solves =
    let side = side_of-board n b good in
    path_parity n path b good (subst (λ m. IsPath m (blank b) path) side solves.0) solves.1 ∙ ap (λ m. taxicab m (blank b) % 2) (sym side)
