-- What is to be checked, as its bytes.
use Rattle.std.specs.Prelude.{Bool, List, [], ◌∷◌, flat_map}
use Rattle.puz_goal.specs.declared.goals.Goal.{Goal}
use Rattle.puz_goal.specs.declared.goals.Goal.TheVariants.{First}
use Rattle.byte_io.specs.Shelf.{Bytes}
use Rattle.pdb_request.specs.declared.requests.LogClaim.{LogClaim}
use Rattle.pdb_request.specs.declared.requests.LogClaim.TheVariants.{Bound, Optimum}
use Rattle.pdb_run.specs.Answers.{all_bytes}
use Rattle.pdb_verdict.specs.declared.inputs.Inputs.{Inputs}
use Rattle.pdb_verdict.specs.declared.inputs.Inputs.TheVariants as inputs

-- the files of a check of a log: a text, which is a board text for a bound and a puzzle text for an optimum, a set text, a log file
-- and table files; whether each table is folded once it is checked; and where the blank is at home
pub record LogFiles : Type 0 where
  pub text : Bytes
  pub sets : Bytes
  pub log : Bytes
  pub tables : List Bytes
  pub fold : Bool
  pub goal : Goal

-- these four files, for a goal, with the tables folded or not
abbrev pub log_files : Goal → Bool → Bytes → Bytes → Bytes → List Bytes → LogFiles
log_files goal fold text sets log tables = record { text = text; sets = sets; log = log; tables = tables; fold = fold; goal = goal }

-- what a command is to check: the bytes of each of its inputs
pub data Given : Type 0 where
  -- of `replay`: a puzzle text, for a goal
  puzzle_text : Goal → Bytes → Given
  -- of `table`: a table file
  table_file : Bytes → Given
  -- of `bound` and `optimal`: what is claimed of a log, and the files
  log_claim : LogClaim → LogFiles → Given

-- inputs as the code has them
abbrev pub given : Inputs → Given
given (inputs.Replay puzzle goal) = puzzle_text goal puzzle.now
given (inputs.Table table) = table_file table.now
given (inputs.Bound board sets log tables fold goal) = log_claim Bound (log_files goal fold board.now sets.now log.now (all_bytes tables.now))
given (inputs.Optimal puzzle sets log tables fold goal) = log_claim Optimum (log_files goal fold puzzle.now sets.now log.now (all_bytes tables.now))

-- where the blank is at home
abbrev pub goal_of : Given → Goal
goal_of (puzzle_text goal puzzle) = goal
goal_of (table_file table) = First
goal_of (log_claim claim files) = files.goal

-- the files, in the order in which they are read
abbrev pub files_in_order : Given → List Bytes
files_in_order (puzzle_text goal puzzle) = puzzle ∷ []
files_in_order (table_file table) = table ∷ []
files_in_order (log_claim claim files) = files.text ∷ files.sets ∷ files.log ∷ files.tables

-- their bytes, one after the other
abbrev pub bytes_of : Given → Bytes
bytes_of inputs = flat_map (λ file. file) (files_in_order inputs)
