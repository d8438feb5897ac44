-- Bounds that a log proves: what `bound BOARD SETS LOG TABLES..` and `optimal PUZZLE SETS LOG TABLES..` share.
use Rattle.std.specs.Prelude.{◌≡◌, ℕ, Bool, List, Result, Ok, Err}
use Rattle.puz_board.specs.BoardTexts.{Spells, board_of_text}
use Rattle.puz_goal.specs.declared.goals.Goal.{Goal}
use Rattle.puz_goal.specs.Goals.{IsBoundedFor}
use Rattle.puz_goal.specs.Turning.{board_for}
use Rattle.set_sum.specs.Bundles.{ShownBundle}
use Rattle.log_check.specs.GoodLogs.{IsGoodFile}
use Rattle.log_check.specs.LogFaults.{IsLogRefusalOf}
use Rattle.log_check.specs.declared.faults.LogRefusal.{LogRefusal}
use Rattle.byte_io.specs.Shelf.{Bytes}
use Rattle.pdb_verdict.specs.FileBundles.{AreRefused, IsBundleOfFiles, TakesMemoryForTables}
use Rattle.pdb_verdict.specs.Inputs.{LogFiles}
use Rattle.pdb_verdict.specs.declared.verdicts.Fault.{Fault}
use Rattle.pdb_verdict.specs.declared.verdicts.Fault.TheVariants as fault

-- ---- bounds that a log proves for a board

-- the table files, folded or full, and the set text make a bundle, and over it the log file is that of a good log for the board
-- and the bound
pub record IsProvedBound (fold : Bool) (board : List ℕ) (sets log : Bytes) (tables : List Bytes) (bound : ℕ) : Type 0 where
  pub bundle : ShownBundle
  pub is_bundle : IsBundleOfFiles fold tables sets bundle
  pub good : IsGoodFile bundle board log bound

-- they are such for the board as it is turned for a goal
abbrev pub IsProvedFor : Goal → Bool → List ℕ → Bytes → Bytes → List Bytes → ℕ → Type 0
IsProvedFor goal fold board sets log tables bound = IsProvedBound fold (board_for goal board) sets log tables bound

-- they make a bundle, and over it the log file is refused for this
pub record IsRefusedLog (fold : Bool) (board : List ℕ) (sets log : Bytes) (tables : List Bytes) (refused : LogRefusal) : Type 0 where
  pub bundle : ShownBundle
  pub is_bundle : IsBundleOfFiles fold tables sets bundle
  pub fault : IsLogRefusalOf refused bundle board log

-- the bound that is proved for the board, or why none is: each table file comes first, then the set text, then the log
abbrev pub IsBoundFor : Bool → List ℕ → Bytes → Bytes → List Bytes → Result ℕ Fault → Type 0
IsBoundFor fold board sets log tables (Ok bound) = IsProvedBound fold board sets log tables bound
IsBoundFor fold board sets log tables (Err (fault.Log refused)) = IsRefusedLog fold board sets log tables refused
IsBoundFor fold board sets log tables (Err refused) = AreRefused fold tables sets refused

-- ---- `bound`

-- the text spells a board, for which this is found once it is turned for its goal
pub record IsFoundForText (files : LogFiles) (found : Result ℕ Fault) : Type 0 where
  pub board : List ℕ
  pub spelt : Spells files.text board
  pub found_for : IsBoundFor files.fold (board_for files.goal board) files.sets files.log files.tables found

-- the result: the bound that is proved for the board of the text, or why none is; the board text comes before all else
abbrev pub IsBoundResult : LogFiles → Result ℕ Fault → Type 0
IsBoundResult files (Err (fault.Board refused)) = board_of_text files.text ≡ Err refused
IsBoundResult files found = IsFoundForText files found

-- it takes memory to check the tables, once the text spells a board
abbrev pub TakesMemoryForBound : Bytes → List Bytes → Type 0
TakesMemoryForBound text tables = (board : List ℕ) × Spells text board × TakesMemoryForTables tables

-- what a bound says: no solution for the goal of the board that the text spells has fewer moves
abbrev pub IsBoundedText : Goal → Bytes → ℕ → Type 0
IsBoundedText goal text bound = (board : List ℕ) × Spells text board × IsBoundedFor goal board bound
