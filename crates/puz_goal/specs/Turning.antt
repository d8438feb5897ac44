-- Boards and moves turned by half a turn: the last cell becomes the first, and the last tile becomes tile 1.
use Rattle.std.specs.Prelude.{ℕ, ◌-◌, ◌*◌, ◌==◌, if◌then◌else◌, List, map}
use Rattle.std.specs.List.{range_with_len}
use Rattle.puz_board.specs.Boards.{at, side_of}
use Rattle.puz_goal.specs.declared.goals.Goal.{Goal}
use Rattle.puz_goal.specs.declared.goals.Goal.TheVariants.{First, Last}

-- ---- half a turn

-- as many cells lie behind this cell as before cell c
abbrev pub turned_cell : ℕ → ℕ → ℕ
turned_cell n c = n * n - 1 - c

-- the blank stays the blank, and of n * n - 1 tiles the last becomes tile 1
abbrev pub turned_number : ℕ → ℕ → ℕ
turned_number n t = if t == 0 then 0 else n * n - t

-- on side n: what is in a cell goes to the turned cell
abbrev pub turned_on : ℕ → List ℕ → List ℕ
turned_on n b = map (λ c. turned_number n (at b (turned_cell n c))) (range_with_len 0 (n * n))

-- the board turned
unfoldable pub half_turned : List ℕ → List ℕ
half_turned b = turned_on (side_of b) b

-- the letter of the move in the opposite direction: U is 85, D 68, L 76 and R 82; another byte stays
abbrev pub turned_letter : ℕ → ℕ
turned_letter b =
    if b == 85 then 68 else
    if b == 68 then 85 else
    if b == 76 then 82 else
    if b == 82 then 76 else b

-- ---- what a goal makes of boards and of moves

-- the board, turned where the blank is last at home
abbrev pub board_for : Goal → List ℕ → List ℕ
board_for First b = b
board_for Last b = half_turned b

-- the same of a letter
abbrev pub letter_for : Goal → ℕ → ℕ
letter_for First letter = letter
letter_for Last letter = turned_letter letter

-- and of a moves text
abbrev pub moves_for : Goal → List ℕ → List ℕ
moves_for First text = text
moves_for Last text = map turned_letter text
