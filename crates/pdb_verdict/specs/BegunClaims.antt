-- What a claim on a log begins with.
use Rattle.std.specs.Prelude.{ℕ, List, Option, Some, None, Result, Ok, Err}
use Rattle.puz_board.specs.BoardTexts.{board_of_text}
use Rattle.puz_board.specs.PuzzleTexts.{puzzle_parts}
use Rattle.puz_board.specs.declared.texts.BoardFault.{BoardFault}
use Rattle.puz_goal.specs.declared.goals.Goal.{Goal}
use Rattle.puz_goal.specs.Turning.{board_for}
use Rattle.byte_io.specs.Shelf.{Bytes}
use Rattle.pdb_request.specs.declared.requests.LogClaim.{LogClaim}
use Rattle.pdb_request.specs.declared.requests.LogClaim.TheVariants.{Bound, Optimum}
use Rattle.pdb_verdict.specs.Replay.{solved_parts}
use Rattle.pdb_verdict.specs.declared.claims.BegunClaim.{BegunClaim}
use Rattle.pdb_verdict.specs.declared.verdicts.Fault.{Fault}
use Rattle.pdb_verdict.specs.declared.verdicts.Fault.TheVariants as fault

-- a board, turned for its goal, and how many moves solve it, where that is claimed
abbrev pub begun_with : List ℕ → Option ℕ → BegunClaim
begun_with board moves = record { board = board; moves = moves }

-- of a board text
abbrev pub begun_by_board : Goal → Result (List ℕ) BoardFault → Result BegunClaim Fault
begun_by_board goal (Ok board) = Ok (begun_with (board_for goal board) None)
begun_by_board goal (Err refused) = Err (fault.Board refused)

-- of a puzzle text
abbrev pub begun_by_puzzle : Result (List ℕ × ℕ) Fault → Result BegunClaim Fault
begun_by_puzzle (Ok read) = Ok (begun_with read.0 (Some read.1))
begun_by_puzzle (Err refused) = Err refused

-- what a claim on the text begins with, or why the text is refused
abbrev pub begun : Goal → LogClaim → Bytes → Result BegunClaim Fault
begun goal Bound text = begun_by_board goal (board_of_text text)
begun goal Optimum text = begun_by_puzzle (solved_parts goal (puzzle_parts text))
