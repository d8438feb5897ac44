-- What the words of the program do, and how a run on words ends.
use Rattle.std.specs.Prelude.{◌≡◌, ◌⊎◌, ℕ, false, true, List, Option, None}
use Rattle.std.specs.Io.KnownBytes.{Keeps}
use Rattle.byte_io.specs.Shelf.{Bytes}
use Rattle.byte_io.specs.Streams.{WritesAll}
use Rattle.byte_io.specs.declared.streams.ReadFault.TheVariants.{F2}
use Rattle.pdb_request.specs.Asked.{Asked, bound, make_table, optimal, parts, prove, replay, solve, table}
use Rattle.pdb_request.specs.declared.requests.LogClaim.TheVariants.{Bound, Optimum}
use Rattle.pdb_run.specs.Commands.{Plan, Wanted}
use Rattle.pdb_run.specs.Inputs.{IsFirstUnread}
use Rattle.pdb_run.specs.Runs.{Ends, HasCause, HasMade, IsAnswered, IsSpared, Outcome, World, status_of, text_of}
use Rattle.pdb_run.specs.Statuses.{status_number}
use Rattle.pdb_run.specs.declared.statuses.Status.{Status}
use Rattle.pdb_check.specs.Plans.{log_check_plan, replay_plan, table_plan}
use Rattle.pdb_keep.specs.Kept.{IsLogKept, IsTableKept}
use Rattle.pdb_keep.specs.MakeTable.{make_table_plan}
use Rattle.pdb_keep.specs.Solve.{solve_plan}
use Rattle.pdb_prove.specs.Prove.{IsCutShort, prove_plan}
use Rattle.pdb_parts.specs.Parts.{parts_plan}
use Rattle.pdb_parts.specs.Beside.{TellsOfAnswers}
use Rattle.pdb_words.specs.CommandLine.{Parses, asked_of}
use Rattle.pdb_program.specs.Refusals.{Refuses}

-- the plan of what words ask for; how many workers share a check and how far a search may go change nothing of it
abbrev pub plan_of : Asked → Plan
plan_of (replay arguments) = replay_plan arguments
plan_of (table arguments) = table_plan arguments
plan_of (bound arguments) = log_check_plan Bound arguments
plan_of (optimal arguments) = log_check_plan Optimum arguments
plan_of (make_table arguments) = make_table_plan arguments
plan_of (solve arguments) = solve_plan arguments
plan_of (prove arguments) = prove_plan arguments
plan_of (parts arguments) = parts_plan arguments

-- a write of a command that writes line by line failed before all lines were written
abbrev pub IsCut : Asked → World → World → Status → Type 0
IsCut (prove arguments) old new status = IsCutShort arguments old new status
IsCut other old new status = ⊥

-- a run of what words ask for ends as its plan says, or was cut
abbrev pub EndsFor : Asked → World → World → Status → Type 0
EndsFor asked old new status = Ends (plan_of asked) old new status ⊎ IsCut asked old new status

-- the words ask for nothing under whose name a file is kept: only make-table and solve keep one
abbrev pub AskToKeepNothing : List Bytes → Type 0
AskToKeepNothing words = Parses words → (plan_of (asked_of words)).keeps_under ≡ None

-- after a yes: what was made for these words stands under its name, checked, and under each other name what stood there;
-- what was asked for with other words leaves the shelf as it was
abbrev pub HasKept : Asked → World → World → Type 0
HasKept (make_table arguments) old new = IsTableKept arguments old new
HasKept (solve arguments) old new = IsLogKept arguments old new
HasKept other old new = new.files ≡ old.files

-- what a run has to say is written whole
pub record SaysAll (asked : Asked) (old new : World) (number : ℕ) : Type 0 where
  pub outcome : Outcome
  pub cause : HasCause (plan_of asked) old new.failed outcome
  pub whole : WritesAll old.written new.written (text_of outcome)
  pub is_status : number ≡ status_number (status_of outcome)

-- the shelf has failed, or the reader, or a write; or an input, the first that was not read, is over its limit; or what stands under
-- the name of what is to be kept is spared; or something was made of the inputs, and is wrong
abbrev pub HasFault : Asked → World → World → Type 0
HasFault asked old new =
    (new.failed.shelf ≡ true) ⊎ (new.failed.reader ≡ true) ⊎ (new.written.failed ≡ true)
    ⊎ ((wanted : Wanted) × IsFirstUnread old.files old.reader new.failed (plan_of asked).inputs wanted F2)
    ⊎ ((name : Bytes) × IsSpared (plan_of asked) old name) ⊎ HasMade (plan_of asked) old

-- the number is that of a status of which this holds
abbrev pub IsNumberOfStatus : (Status → Type 0) → ℕ → Type 0
IsNumberOfStatus Holds number = (status : Status) × (number ≡ status_number status) × Holds status

-- what a run tells on the errors of what words ask for: of answers that `parts` reads, and of any other command nothing
abbrev pub TellsFor : Asked → World → (old_err new_err : Option Bytes) → Status → Type 0
TellsFor (parts arguments) old old_err new_err status = TellsOfAnswers arguments old old_err new_err status
TellsFor other old old_err new_err status = Keeps old_err new_err

-- a run on these words, from the one world to the other; what stood on the errors before and after it; and its number
pub record RunsOn (words : List Bytes) (old new : World) (old_err new_err : Option Bytes) (number : ℕ) : Type 0 where
  pub answered : Parses words → (number ≡ 0) ⊎ (number ≡ 1) → IsNumberOfStatus (IsAnswered (plan_of (asked_of words)) old new) number
  pub ends : Parses words → IsNumberOfStatus (EndsFor (asked_of words) old new) number
  -- nothing is cut short but by a write that failed, and status 2 has a cause that shelf, streams or inputs show, or that lies with a
  -- maker
  pub whole : Parses words → new.written.failed ≡ false → SaysAll (asked_of words) old new number
  pub fault : Parses words → number ≡ 2 → HasFault (asked_of words) old new
  pub refuses : (Parses words → ⊥) → IsNumberOfStatus (Refuses words old.written new.written old_err new_err) number
  pub tells : Parses words → IsNumberOfStatus (TellsFor (asked_of words) old old_err new_err) number
  pub kept : Parses words → number ≡ 0 → HasKept (asked_of words) old new
  pub same : AskToKeepNothing words → new.files ≡ old.files
