-- Moves texts: letters that name moves, with separators anywhere among them.
use Rattle.std.specs.Prelude.{◌≡◌, ℕ, ◌+◌, ◌≤◌, nat_lt, min, ◌||◌, not, if◌then◌else◌, Bool, false, List, length, take, position, filter_map, is_some, is_none, Option, Result, Ok, Err}
use Rattle.std.specs.List.{AllPass}
use Rattle.std.specs.Option.{option_map_or}
use Rattle.puz_board.specs.Boards.{blank, is_goal, side_of}
use Rattle.puz_board.specs.BoardTexts.{is_separator, refuse}
use Rattle.puz_board.specs.Cells.{move_of_letter}
use Rattle.puz_board.specs.First.{first_below}
use Rattle.puz_board.specs.Paths.{IsSolution, Leads, board_after}
use Rattle.puz_board.specs.declared.moves.Move.{Move}
use Rattle.puz_board.specs.declared.replays.MoveFault.{MoveFault}
use Rattle.puz_board.specs.declared.replays.MoveFault.TheVariants.{M1, M2, M3, M4}

-- ---- what a moves text is

-- the letter of a move
abbrev pub is_letter : ℕ → Bool
is_letter b = is_some (move_of_letter b)

-- the moves that the letters name, in their order
abbrev pub moves_of : List ℕ → List Move
moves_of text = filter_map move_of_letter text

-- the text has letters and separators alone, and its n moves, 1000 at most, are a solution of the board
pub record Solves (b text : List ℕ) (n : ℕ) : Type 0 where
  pub letters : AllPass (λ byte. is_letter byte || is_separator byte) text
  pub path : List ℕ
  pub led : Leads (side_of b) (blank b) (moves_of text) path
  pub solution : IsSolution b path
  pub count : length path ≡ n
  pub few : n ≤ 1000

-- ---- the faults, in their order

-- the first byte that is neither a letter nor a separator
unfoldable pub stray_letter : List ℕ → Option ℕ
stray_letter text = position (λ b. not (is_letter b || is_separator b)) text

-- the move with number i leaves the board, or one before it does
abbrev pub leaves_at : List ℕ → List Move → ℕ → Bool
leaves_at b ms i = is_none (board_after b (take (i + 1) ms))

-- the first move that leaves the board, if it is among the first 1000
unfoldable pub leaving : List ℕ → List Move → Option ℕ
leaving b ms = first_below (leaves_at b ms) (min 1000 (length ms))

-- how many moves there are, where they solve the board, or the first of their faults
unfoldable pub replay_of_moves : List ℕ → List Move → Result ℕ MoveFault
replay_of_moves b ms =
    refuse M2 (leaving b ms) (
    if nat_lt 1000 (length ms) then Err M3 else
    if option_map_or is_goal (board_after b ms) false then Ok (length ms) else Err M4)

-- how many moves a text has, where they solve the board, or the first of its faults
unfoldable pub replay_of : List ℕ → List ℕ → Result ℕ MoveFault
replay_of b text = refuse M1 (stray_letter text) (replay_of_moves b (moves_of text))
