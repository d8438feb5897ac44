-- `optimal PUZZLE SETS LOG TABLES..`: whether the moves of a puzzle text solve its board, and a log proves that none are fewer.
use Rattle.std.specs.Prelude.{◌≡◌, ◌≢◌, ◌⊎◌, ℕ, Bool, List, Result, Ok, Err, length}
use Rattle.puz_board.specs.BoardTexts.{Spells}
use Rattle.puz_goal.specs.declared.goals.Goal.{Goal}
use Rattle.puz_goal.specs.Goals.{IsBoundedFor, IsSolutionFor}
use Rattle.puz_goal.specs.Turning.{board_for}
use Rattle.set_sum.specs.Bundles.{ShownBundle}
use Rattle.byte_io.specs.Shelf.{Bytes}
use Rattle.pdb_verdict.specs.Bound.{IsBoundFor}
use Rattle.pdb_verdict.specs.FileBundles.{IsBundleOfFiles, TakesMemoryForTables}
use Rattle.pdb_verdict.specs.Inputs.{LogFiles, log_files}
use Rattle.pdb_verdict.specs.Refusals.{IsFoundBy}
use Rattle.pdb_verdict.specs.Replay.{IsReplayResult, IsSolvedPuzzle, puzzle_of}
use Rattle.pdb_verdict.specs.declared.verdicts.Fault.{Fault}
use Rattle.pdb_verdict.specs.declared.verdicts.Fault.TheVariants.{O1}

-- the moves of the puzzle text are n and solve its board, for which this is found once it is turned for its goal
pub record IsFoundForPuzzle (files : LogFiles) (n : ℕ) (found : Result ℕ Fault) : Type 0 where
  pub solved : IsSolvedPuzzle files.goal files.text n
  pub found_for : IsBoundFor files.fold (board_for files.goal solved.board) files.sets files.log files.tables found

-- the result: the number of the moves where it is the bound that is proved for the board, or why not; the puzzle text comes
-- before all else, and last that the bound is another number
abbrev pub IsOptimumResult : LogFiles → Result ℕ Fault → Type 0
IsOptimumResult files (Ok n) = IsFoundForPuzzle files n (Ok n)
IsOptimumResult files (Err refused) =
    IsReplayResult files.goal files.text (Err refused)
    ⊎ ((n : ℕ) × IsFoundForPuzzle files n (Err refused))
    ⊎ ((n : ℕ) × (bound : ℕ) × IsFoundForPuzzle files n (Ok bound) × (n ≢ bound) × (refused ≡ O1 n bound))

-- it takes memory to check the tables, once the moves solve the board
abbrev pub TakesMemoryForOptimum : Goal → Bytes → List Bytes → Type 0
TakesMemoryForOptimum goal text tables = (n : ℕ) × IsSolvedPuzzle goal text n × TakesMemoryForTables tables

-- this is found for a board, moves and a log over a bundle, as for the puzzle text of any text that spells the board, and of the
-- moves, over any files that make the bundle
abbrev pub IsOptimumOver : Goal → ShownBundle → List ℕ → Bytes → Bytes → Result ℕ Fault → Type 0
IsOptimumOver goal bundle board moves log found =
    (fold : Bool) (text sets : Bytes) (tables : List Bytes) → Spells text board → IsBundleOfFiles fold tables sets bundle →
    let puzzle = puzzle_of text moves in
    IsFoundBy (IsOptimumResult (log_files goal fold puzzle sets log tables)) (TakesMemoryForOptimum goal puzzle tables) found

-- ---- what an optimum says

-- n is the least number of moves of any solution of the board for the goal: there is a solution of n moves, and none of fewer
pub record IsLeastCount (goal : Goal) (board : List ℕ) (n : ℕ) : Type 0 where
  pub path : List ℕ
  pub solution : IsSolutionFor goal board path
  pub count : length path ≡ n
  pub bounded : IsBoundedFor goal board n

-- the moves of the puzzle text are n, and solve its board for the goal, and no solution has fewer
pub record IsOptimum (goal : Goal) (puzzle : Bytes) (n : ℕ) : Type 0 where
  pub solved : IsSolvedPuzzle goal puzzle n
  pub least : IsLeastCount goal solved.board n
