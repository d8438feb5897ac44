-- The status of a run by why it ended without a yes.
use Rattle.std.specs.Prelude.{◌≡◌, Option, Some, None}
use Rattle.pdb_run.specs.declared.ends.Cause.{Cause}
use Rattle.pdb_run.specs.declared.ends.Cause.TheVariants.{Unread, TooLong, Spared, Unkept, Unwritten, Words, MadeWrong, Refused, Open}
use Rattle.pdb_run.specs.declared.ends.Cause.TheVariants as cause
use Rattle.pdb_run.specs.declared.ends.Ended.{Ended}
use Rattle.pdb_run.specs.declared.statuses.Status.{Status}
use Rattle.pdb_run.specs.declared.statuses.Status.TheVariants as status

-- a refusal, a fault or want of memory; a yes where there is no cause for anything else
abbrev pub status_by : {F : Type 0} → Option (Cause F) → Status
status_by None = status.Yes
status_by (Some (Unread name)) = status.Fault
status_by (Some (TooLong name)) = status.Fault
status_by (Some (Spared name)) = status.Fault
status_by (Some (Unkept name)) = status.Fault
status_by (Some Unwritten) = status.Fault
status_by (Some Words) = status.Fault
status_by (Some MadeWrong) = status.Fault
status_by (Some cause.NoMemory) = status.NoMemory
status_by (Some (Refused fault)) = status.Refused
status_by (Some Open) = status.Refused

-- a run ends with the status of why it is no yes: with a yes where there is nothing to tell, and nowhere else
abbrev pub HasItsStatus : {F : Type 0} → Ended F → Type 0
HasItsStatus ended = ended.status ≡ status_by ended.why
