-- What the parts of a check of forbidden strings say.
use Rattle.std.specs.Prelude.{◌≡◌, ℕ, ◌==◌, if◌then◌else◌, List, Some}
use Rattle.puz_board.specs.Boards.{IsBoardOf, blank}
use Rattle.puz_board.specs.Paths.{board_after}
use Rattle.puz_board.specs.declared.moves.Move.{Move}

-- on this board the witness can be made wherever the string can, and the board after it is the same
abbrev pub IsSameOn : List ℕ → List Move → List Move → Type 0
IsSameOn b string witness = (end : List ℕ) → board_after b string ≡ Some end → board_after b witness ≡ Some end

-- so it is on each board of side n whose blank is in cell c
abbrev pub IsSameFrom : ℕ → ℕ → List Move → List Move → Type 0
IsSameFrom n c string witness = (b : List ℕ) → IsBoardOf n b → blank b ≡ c → IsSameOn b string witness

-- the number in a place, where the blank of the goal board has been exchanged with the number in a cell
abbrev pub exchanged : ℕ → ℕ → ℕ
exchanged cell place =
    if place == cell then 0 else
    if place == 0 then cell else place
