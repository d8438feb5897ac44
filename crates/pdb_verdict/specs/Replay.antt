-- `replay [--goal first|last] [FILE]`: whether the moves of a puzzle text solve its board.
use Rattle.std.specs.Prelude.{◌≡◌, ℕ, List, ◌∷◌, ◌++◌, Option, Some, None, Result, Ok, Err, MatchResult, codes}
use Rattle.puz_board.specs.BoardTexts.{Spells, board_of_text}
use Rattle.puz_board.specs.MovesTexts.{replay_of}
use Rattle.puz_board.specs.PuzzleTexts.{puzzle_parts}
use Rattle.puz_board.specs.declared.replays.MoveFault.{MoveFault}
use Rattle.puz_board.specs.declared.texts.BoardFault.{BoardFault}
use Rattle.puz_goal.specs.declared.goals.Goal.{Goal}
use Rattle.puz_goal.specs.Goals.{SolvesFor}
use Rattle.puz_goal.specs.Turning.{board_for, moves_for}
use Rattle.byte_io.specs.Shelf.{Bytes}
use Rattle.pdb_verdict.specs.Refusals.{IsTold}
use Rattle.pdb_verdict.specs.declared.verdicts.Fault.{Fault}
use Rattle.pdb_verdict.specs.declared.verdicts.Fault.TheVariants.{Board, Moves, P1}
use Rattle.pdb_verdict.specs.declared.verdicts.Verdict.{Verdict}
use Rattle.pdb_verdict.specs.declared.verdicts.Verdict.TheVariants as verdict

-- ---- what a yes means

-- a board text, a `;`, and a text of n moves that solve the board for the goal
pub record IsSolvedPuzzle (goal : Goal) (puzzle : Bytes) (n : ℕ) : Type 0 where
  pub board : List ℕ
  pub board_text : Bytes
  pub moves_text : Bytes
  pub whole : puzzle ≡ board_text ++ (codes ";" ++ moves_text)
  pub spelt : Spells board_text board
  pub solved : SolvesFor goal board moves_text n

-- ---- the result

-- the board, turned for its goal, and the number of moves that solve it, or why the moves text is refused
abbrev pub solved_by : List ℕ → Result ℕ MoveFault → Result (List ℕ × ℕ) Fault
solved_by board (Err refused) = Err (Moves refused)
solved_by board (Ok n) = Ok (board, n)

-- the same of a board that was read, and otherwise why the board text is refused
abbrev pub solved_board : Goal → Result (List ℕ) BoardFault → Bytes → Result (List ℕ × ℕ) Fault
solved_board goal (Err refused) moves = Err (Board refused)
solved_board goal (Ok board) moves = solved_by (board_for goal board) (replay_of (board_for goal board) (moves_for goal moves))

-- the same of the texts before and behind the first `;`, and otherwise that there is none
abbrev pub solved_parts : Goal → Option (Bytes × Bytes) → Result (List ℕ × ℕ) Fault
solved_parts goal None = Err P1
solved_parts goal (Some parts) = solved_board goal (board_of_text parts.0) parts.1

-- a board text and a moves text as a puzzle text; the byte of `;` is 59
abbrev pub puzzle_of : Bytes → Bytes → Bytes
puzzle_of text moves = text ++ 59 ∷ moves

-- the result on the puzzle text
abbrev pub IsReplayResult : Goal → Bytes → Result ℕ Fault → Type 0
IsReplayResult goal puzzle found =
    MatchResult found (IsSolvedPuzzle goal puzzle) (λ refused. solved_parts goal (puzzle_parts puzzle) ≡ Err refused)

-- the answer tells it
abbrev pub IsReplayTold : Goal → Bytes → Result Verdict Fault → Type 0
IsReplayTold goal puzzle answer = IsTold verdict.Solution (IsReplayResult goal puzzle) answer
