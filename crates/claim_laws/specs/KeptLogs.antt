-- What holds of all logs that `solve` has kept: `bound` takes them.
use Rattle.std.specs.Prelude.{◌≡◌, ◌≢◌, ◌⊎◌, [], ◌∷◌, ◌++◌, Some, codes}
use Rattle.std.specs.List.{AllByRecursion}
use Rattle.byte_io.specs.Shelf.{Files}
use Rattle.byte_io.specs.Streams.{WritesAll}
use Rattle.pdb_request.specs.Asked.{LogArguments, SolveArguments}
use Rattle.pdb_request.specs.declared.requests.LogClaim.TheVariants.{Bound}
use Rattle.pdb_run.specs.Writing.{digests_of}
use Rattle.pdb_run.specs.Runs.{Ends, World}
use Rattle.pdb_run.specs.declared.statuses.Status.{Status}
use Rattle.pdb_run.specs.declared.statuses.Status.TheVariants.{Yes, Refused}
use Rattle.pdb_verdict.specs.Lines.{counted_for}
use Rattle.pdb_check.specs.Plans.{log_check_plan}
use Rattle.pdb_keep.specs.Kept.{IsLogKept}
use Rattle.pdb_keep.specs.Solve.{solve_plan}

-- a check has the names and the goal of a search, and as its log what the search kept; the tables are folded by both or by neither
pub record IsOfSearch (arguments : SolveArguments) (check : LogArguments) : Type 0 where
  pub board : check.text ≡ arguments.board
  pub sets : check.sets ≡ arguments.sets
  pub log : check.log ≡ arguments.out
  pub tables : check.tables ≡ arguments.tables
  pub fold : check.fold ≡ arguments.fold
  pub goal : check.goal ≡ arguments.goal

-- the search has kept a log, and the run behind it says yes, and by its lines that this log proves the number of the moves
pub record IsTaken (arguments : SolveArguments) (old mid later new : World) (status : Status) : Type 0 where
  pub kept : IsLogKept arguments old mid
  pub is_yes : status ≡ Yes
  pub lines : WritesAll later.written new.written (digests_of (kept.files ++ kept.log ∷ []) ++ counted_for arguments.goal (codes "bound ") kept.n)

-- where `solve` ends with a yes, and then `bound` is run over the files that it left, with the same names and with OUT as the
-- log, a yes or a no is a yes, and its bound the number of the moves; OUT is to be none of the other names
abbrev pub KeptLogsAreTaken : Type 0
KeptLogsAreTaken =
    (arguments : SolveArguments) (check : LogArguments) (before : Files) (old mid later new : World) (status : Status) →
    IsOfSearch arguments check → arguments.out ≢ arguments.board → arguments.out ≢ arguments.sets → AllByRecursion (λ name. arguments.out ≢ name) arguments.tables →
    old.files ≡ Some before → Ends (solve_plan arguments) old mid Yes →
    later.files ≡ mid.files → Ends (log_check_plan Bound check) later new status → (status ≡ Yes) ⊎ (status ≡ Refused) →
    IsTaken arguments old mid later new status
