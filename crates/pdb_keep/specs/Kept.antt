-- What a maker's yes leaves on the shelf, and tells.
use Rattle.std.specs.Prelude.{◌≡◌, ℕ, List, [], ◌∷◌, ◌++◌, codes}
use Rattle.puz_board.specs.BoardTexts.{Spells}
use Rattle.puz_goal.specs.Goals.{SolvesFor}
use Rattle.puz_goal.specs.Turning.{board_for}
use Rattle.tab_rule.specs.declared.census.Census.{Census}
use Rattle.byte_io.specs.Shelf.{Bytes, told_with}
use Rattle.byte_io.specs.Streams.{WritesAll}
use Rattle.pdb_request.specs.Asked.{MakeTableArguments, SolveArguments}
use Rattle.pdb_run.specs.Writing.{digests_of}
use Rattle.pdb_run.specs.Inputs.{AreRead}
use Rattle.pdb_run.specs.Runs.{World}
use Rattle.pdb_verdict.specs.Bound.{IsProvedBound}
use Rattle.pdb_verdict.specs.Lines.{counted_for, exact_line}
use Rattle.pdb_verdict.specs.Optimal.{IsLeastCount}
use Rattle.pdb_verdict.specs.Table.{IsExactFor}
use Rattle.pdb_keep.specs.Solve.{letters_of, moves_line, solve_inputs}

-- the shelf has the exact table of this side and this mask under the name, and under each other name what it had; the writer
-- got its digest and its line
pub record IsTableKept (arguments : MakeTableArguments) (old new : World) : Type 0 where
  pub file : Bytes
  pub census : Census
  pub exact : IsExactFor file arguments.side arguments.mask census
  pub kept : new.files ≡ told_with old.files arguments.out file
  pub lines : WritesAll old.written new.written
      (digests_of (file ∷ []) ++ exact_line arguments.side arguments.mask census.entries census.unreachable census.deepest)

-- n is the least number of moves of any solution for the goal of the board that the text under its name spelt at the start: these n
-- moves solve it, and the log proves of the turned board that none are fewer, over the set text and the table files, folded or full, that stood under their
-- names
pub record IsFoundLeast (arguments : SolveArguments) (old : World) (moves log : Bytes) (files : List Bytes) (n : ℕ) : Type 0 where
  pub board_text : Bytes
  pub set_text : Bytes
  pub read : AreRead old.files old.reader (solve_inputs arguments) (board_text ∷ set_text ∷ files)
  pub board : List ℕ
  pub spelt : Spells board_text board
  pub solved : SolvesFor arguments.goal board moves n
  pub proved : IsProvedBound arguments.fold (board_for arguments.goal board) set_text log files n
  pub least : IsLeastCount arguments.goal board n

-- the shelf has such a log under the name, and under each other name what it had; the writer got the digests of the tables
-- and of the log, the letters of the moves and their number
pub record IsLogKept (arguments : SolveArguments) (old new : World) : Type 0 where
  pub moves : Bytes
  pub log : Bytes
  pub files : List Bytes
  pub n : ℕ
  pub found : IsFoundLeast arguments old moves log files n
  pub kept : new.files ≡ told_with old.files arguments.out log
  pub lines : WritesAll old.written new.written
      (digests_of files ++ (digests_of (log ∷ []) ++ (moves_line arguments.goal (letters_of moves) ++ counted_for arguments.goal (codes "optimal ") n)))
