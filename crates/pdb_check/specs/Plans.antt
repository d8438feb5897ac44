-- The plans of the commands that check: the inputs of each, in order, and that the result on them is told.
use Rattle.std.specs.Prelude.{◌≡◌, List, [], ◌∷◌, Some, map}
use Rattle.byte_io.specs.Shelf.{Bytes}
use Rattle.pdb_request.specs.Asked.{LogArguments, ReplayArguments, TableArguments}
use Rattle.pdb_request.specs.declared.requests.LogClaim.{LogClaim}
use Rattle.pdb_run.specs.Commands.{Plan, Reply, Wanted, plan}
use Rattle.pdb_verdict.specs.Inputs.{Given, LogFiles, files_in_order, log_claim, puzzle_text, table_file}
use Rattle.pdb_verdict.specs.Limits.{a_log, a_table, a_text}
use Rattle.pdb_verdict.specs.Verdicts.{TakesMemory, TellsResult}

module _ {A : Type 0} where
  -- the bytes of inputs are something that is to be checked, and the result on that is told
  abbrev pub IsCheckReply : (A → Given) → List Bytes → Reply → Type 0
  IsCheckReply given_of inputs reply = (a : A) × (inputs ≡ files_in_order (given_of a)) × TellsResult (given_of a) reply

  -- it takes memory to check it
  abbrev pub CheckTakesMemory : (A → Given) → List Bytes → Type 0
  CheckTakesMemory given_of inputs = (a : A) × (inputs ≡ files_in_order (given_of a)) × TakesMemory (given_of a)

  -- the plan of such a check, for any number of workers
  abbrev pub check_plan : List Wanted → (A → Given) → Plan
  check_plan inputs given_of = plan inputs (IsCheckReply given_of) (CheckTakesMemory given_of)

-- ---- `replay`

-- one text, of the file or of the reader
abbrev pub replay_inputs : ReplayArguments → List Wanted
replay_inputs arguments = a_text arguments.puzzle ∷ []

-- it is checked as a puzzle text for the goal
abbrev pub replay_plan : ReplayArguments → Plan
replay_plan arguments = check_plan (replay_inputs arguments) (puzzle_text arguments.goal)

-- ---- `table`

-- one table file
abbrev pub table_inputs : TableArguments → List Wanted
table_inputs arguments = a_table arguments.file ∷ []

-- it is checked as a table file
abbrev pub table_plan : TableArguments → Plan
table_plan arguments = check_plan (table_inputs arguments) table_file

-- ---- `bound` and `optimal`, by what is claimed

-- the text, the set text, the log file and the table files, in this order
abbrev pub log_check_inputs : LogArguments → List Wanted
log_check_inputs arguments =
    a_text (Some arguments.text) ∷ a_text (Some arguments.sets) ∷ a_log arguments.log ∷ map a_table arguments.tables

-- what is claimed of the files that were read, for the goal, with the tables folded or not
abbrev pub log_given : LogClaim → LogArguments → LogFiles → Given
log_given claim arguments files = log_claim claim (record files { fold = arguments.fold; goal = arguments.goal })

-- they are checked for what is claimed
abbrev pub log_check_plan : LogClaim → LogArguments → Plan
log_check_plan claim arguments = check_plan (log_check_inputs arguments) (log_given claim arguments)
