-- Boards of a given side.
use Rattle.std.proofs.Common.{◌≡◌, ℕ, ◌*◌, ◌≤◌, List, length, sym, ◌∙◌, ap, subst}
use Rattle.puz_board.specs.Boards.{IsBoard, IsBoardOf, side_of_count}
use Rattle.puz_board.proofs.BoardLemmas.{side_of-board, side_of_count-square}

-- a board of side n is a board of the side that its length tells
pub IsBoard-of : (n : ℕ) (b : List ℕ) → IsBoardOf n b → IsBoard b
IsBoard-of n b good = subst (λ m. IsBoardOf m b) (sym (side_of-board n b good)) good

-- a board of n² numbers, with n from 2 to 5, is one of side n
pub IsBoardOf-sized : (n : ℕ) (b : List ℕ) → 2 ≤ n → n ≤ 5 → length b ≡ n * n → IsBoard b → IsBoardOf n b
IsBoardOf-sized n b low high size good = subst (λ m. IsBoardOf m b) (ap side_of_count size ∙ side_of_count-square n low high) good
