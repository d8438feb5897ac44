-- How a run of a command ends.
use Rattle.std.specs.Prelude.{◌≡◌, ◌⊎◌, ⊤, Bool, true, false, List, ◌∷◌, ◌++◌, Option, Some, None, IfSome, IsSomeAnd, codes}
use Rattle.byte_io.specs.Shelf.{Bytes, Files, KeepsOthers, keeps, told_with, tries}
use Rattle.byte_io.specs.Streams.{Output, WritesAll, WritesFront}
use Rattle.byte_io.specs.declared.streams.ReadFault.{ReadFault}
use Rattle.byte_io.specs.declared.streams.ReadFault.TheVariants as read
use Rattle.byte_io.specs.declared.shelf.KeepFault.{KeepFault}
use Rattle.byte_io.specs.declared.shelf.KeepFault.TheVariants as keep
use Rattle.pdb_run.specs.Writing.{maker_line, memory_line, named_line, reply_text, shown}
use Rattle.pdb_run.specs.Calls.{Calls, with_call, with_input, with_inputs, with_keep, with_trial}
use Rattle.pdb_run.specs.Commands.{Plan, Reply, Wanted}
use Rattle.pdb_run.specs.Inputs.{AreRead, Failures, HasNoSuch, HasSuch, IsAsTold, IsFirstUnread, TakesLook, is_spared, left_by_all}
use Rattle.pdb_run.specs.declared.statuses.Status.{Status}
use Rattle.pdb_run.specs.declared.statuses.Status.TheVariants.{Yes, Refused, Fault, NoMemory}

-- ---- what a run meets and leaves

-- the files of its shelf, what its reader has left, the calls on these two and whether they have failed, and what its writer got and
-- whether that has failed; each may be untold
pub record World : Type 0 where
  pub files : Option Files
  pub calls : Calls
  pub failed : Failures
  pub reader : Option Bytes
  pub written : Output

-- the world with these five
abbrev pub world : Option Files → Calls → Failures → Option Bytes → Output → World
world files calls failed reader written = record { files = files; calls = calls; failed = failed; reader = reader; written = written }

-- ---- the one thing that a run does

-- what a run comes to: a reply, a fault, or want of memory
pub data Outcome : Type 0 where
  -- this reply on these inputs
  replied : List Bytes → Reply → Outcome
  -- this input can't be read
  unread : Wanted → ReadFault → Outcome
  -- what is under this name is spared, as was seen before anything was checked or made
  spared : Bytes → Outcome
  -- want of memory to look at what is under this name, before anything was checked or made
  unseen : Bytes → Outcome
  -- nothing can be kept under this name, as was tried before anything was checked or made
  unwritable : Bytes → KeepFault → Outcome
  -- a file that was made can't be kept under this name
  unkept : Bytes → KeepFault → Outcome
  -- want of memory before any input was read: to read the words, or to list the inputs
  unlisted : Outcome
  -- want of memory by the check of the inputs
  no_memory : Outcome
  -- what was made of the inputs is wrong, as the check of it finds or the maker itself
  made_wrong : Outcome

-- what is told of a name under which nothing can be kept
abbrev pub unkept_text : Bytes → KeepFault → Bytes
unkept_text name keep.F3 = named_line (codes "fault write ") (shown (Some name))
unkept_text name keep.Memory = memory_line

-- its lines
abbrev pub text_of : Outcome → Bytes
text_of (replied inputs reply) = reply_text reply
text_of (unread wanted read.F1) = named_line (codes "fault read ") (shown wanted.name)
text_of (unread wanted read.F2) = named_line (codes "fault size ") (shown wanted.name)
text_of (unread wanted read.Memory) = memory_line
text_of (spared name) = unkept_text name keep.F3
text_of (unseen name) = memory_line
text_of (unwritable name why) = unkept_text name why
text_of (unkept name why) = unkept_text name why
text_of unlisted = memory_line
text_of no_memory = memory_line
text_of made_wrong = maker_line

-- a yes or a no
abbrev pub status_of_reply : Bool → Status
status_of_reply true = Yes
status_of_reply false = Refused

-- the status where nothing can be kept
abbrev pub unkept_status : KeepFault → Status
unkept_status keep.F3 = Fault
unkept_status keep.Memory = NoMemory

-- its status, where all its lines are written
abbrev pub status_of : Outcome → Status
status_of (replied inputs reply) = status_of_reply reply.is_yes
status_of (unread wanted read.F1) = Fault
status_of (unread wanted read.F2) = Fault
status_of (unread wanted read.Memory) = NoMemory
status_of (spared name) = Fault
status_of (unseen name) = NoMemory
status_of (unwritable name why) = unkept_status why
status_of (unkept name why) = unkept_status why
status_of unlisted = NoMemory
status_of no_memory = NoMemory
status_of made_wrong = Fault

-- ---- its cause

-- the inputs hold these bytes at the start, each within its limit, and the reply is right for them
abbrev pub IsRight : Plan → World → List Bytes → Reply → Type 0
IsRight plan old inputs reply = AreRead old.files old.reader plan.inputs inputs × plan.MayReply inputs reply

-- only files that begin in these ways may be replaced, if not any may, and none of these inputs; and where the shelf tells its bytes,
-- the one under the name is spared so
abbrev pub SparesBy : Option (List Bytes) → List Wanted → Option Files → Bytes → Type 0
SparesBy replaces inputs files name = IsSomeAnd replaces (λ fronts. IfSome files (λ told. is_spared inputs fronts told name ≡ true))

-- a file is to be kept under this name, the inputs hold these bytes at the start, and what is under the name is spared, for them or for
-- any
pub record IsSpared (plan : Plan) (old : World) (name : Bytes) : Type 0 where
  pub under : plan.keeps_under ≡ Some name
  pub inputs : List Bytes
  pub read : AreRead old.files old.reader plan.inputs inputs
  pub spares : SparesBy plan.replaces plan.inputs old.files name ⊎ HasSuch (plan.Spares inputs) old.files name

-- the same, but it has to be looked at whether that is spared
pub record IsUnseen (plan : Plan) (old : World) (name : Bytes) : Type 0 where
  pub under : plan.keeps_under ≡ Some name
  pub inputs : List Bytes
  pub read : AreRead old.files old.reader plan.inputs inputs
  pub looks : TakesLook (plan.Spares inputs) old.files name

-- a file is to be kept under this name, the inputs hold these bytes at the start, and the shelf has failed when it was tried, or
-- memory was wanted to try it
pub record IsUnwritable (plan : Plan) (old : World) (failed : Failures) (name : Bytes) (why : KeepFault) : Type 0 where
  pub under : plan.keeps_under ≡ Some name
  pub inputs : List Bytes
  pub read : AreRead old.files old.reader plan.inputs inputs
  pub has_failed : why ≡ keep.F3 → failed.shelf ≡ true

-- what was made is kept after a yes, and after nothing else
abbrev pub kept_after : Bool → Option Bytes → Option Bytes
kept_after true made = made
kept_after false made = None

-- the file that is kept of a reply
abbrev pub kept : Reply → Option Bytes
kept reply = kept_after reply.is_yes reply.made

-- a right reply has a file to keep under this name, and the shelf has failed, or memory was wanted to keep it
pub record IsUnkept (plan : Plan) (old : World) (failed : Failures) (name : Bytes) (why : KeepFault) : Type 0 where
  pub under : plan.keeps_under ≡ Some name
  pub inputs : List Bytes
  pub reply : Reply
  pub right : IsRight plan old inputs reply
  pub file : Bytes
  pub is_kept : kept reply ≡ Some file
  pub has_failed : why ≡ keep.F3 → failed.shelf ≡ true

-- the inputs hold these bytes at the start, each within its limit, and the check of these takes memory
abbrev pub WantsMemory : Plan → World → Type 0
WantsMemory plan old = (inputs : List Bytes) × AreRead old.files old.reader plan.inputs inputs × plan.TakesMemory inputs

-- the inputs hold these bytes at the start, and something is made of these
abbrev pub HasMade : Plan → World → Type 0
HasMade plan old = (inputs : List Bytes) × AreRead old.files old.reader plan.inputs inputs × plan.Makes inputs

-- a reply is right, the input that was not read is the first, what stands under the name is spared or has to be looked at, nothing could
-- be kept or the file to keep was not, memory was wanted where the check takes some, and what was made is wrong where something is made;
-- before any input is read memory may always be wanted
abbrev pub HasCause : Plan → World → Failures → Outcome → Type 0
HasCause plan old failed (replied inputs reply) = IsRight plan old inputs reply
HasCause plan old failed (unread wanted why) = IsFirstUnread old.files old.reader failed plan.inputs wanted why
HasCause plan old failed (spared name) = IsSpared plan old name
HasCause plan old failed (unseen name) = IsUnseen plan old name
HasCause plan old failed (unwritable name why) = IsUnwritable plan old failed name why
HasCause plan old failed (unkept name why) = IsUnkept plan old failed name why
HasCause plan old failed unlisted = ⊤
HasCause plan old failed no_memory = WantsMemory plan old
HasCause plan old failed made_wrong = HasMade plan old

-- ---- its effects

-- these files, with that one under the name, where there is a name and a file
abbrev pub with_kept : Option Files → Option Bytes → Option Bytes → Option Files
with_kept files None file = files
with_kept files (Some name) None = files
with_kept files (Some name) (Some file) = told_with files name file

-- a reply leaves the files as they were but for the one that is kept; where keeping failed, what that name has is open;
-- anything else leaves them as they were
abbrev pub LeavesFiles : Plan → Option Files → Option Files → Outcome → Type 0
LeavesFiles plan old new (replied inputs reply) = new ≡ with_kept old plan.keeps_under (kept reply)
LeavesFiles plan old new (unread wanted why) = new ≡ old
LeavesFiles plan old new (spared name) = new ≡ old
LeavesFiles plan old new (unseen name) = new ≡ old
LeavesFiles plan old new (unwritable name why) = new ≡ old
LeavesFiles plan old new (unkept name why) = KeepsOthers old new name
LeavesFiles plan old new unlisted = new ≡ old
LeavesFiles plan old new no_memory = new ≡ old
LeavesFiles plan old new made_wrong = new ≡ old

-- of a plan that keeps under a name the failures are as they were: a read that failed, or the trial of the name, or the keeping
-- would be seen
abbrev pub StaysCalm : Plan → Failures → Failures → Type 0
StaysCalm plan old new = (name : Bytes) → plan.keeps_under ≡ Some name → new ≡ old

-- so it is after a reply, and with any plan where a file is spared, memory was wanted elsewhere than for an input or a trial, or what
-- was made is wrong; any other outcome may leave them failed
abbrev pub LeavesFailure : Plan → Failures → Failures → Outcome → Type 0
LeavesFailure plan old new (replied inputs reply) = StaysCalm plan old new
LeavesFailure plan old new (unread wanted why) = ⊤
LeavesFailure plan old new (spared name) = new ≡ old
LeavesFailure plan old new (unseen name) = new ≡ old
LeavesFailure plan old new (unwritable name why) = ⊤
LeavesFailure plan old new (unkept name why) = ⊤
LeavesFailure plan old new unlisted = new ≡ old
LeavesFailure plan old new no_memory = new ≡ old
LeavesFailure plan old new made_wrong = new ≡ old

-- once all inputs are read, the reader has what they left: all that it had, where none of them is the reader; how far it was
-- read before one of them failed is open
abbrev pub LeavesReader : Plan → Option Bytes → Option Bytes → Outcome → Type 0
LeavesReader plan old new (replied inputs reply) = IsAsTold (left_by_all old plan.inputs) new
LeavesReader plan old new (unread wanted why) = ⊤
LeavesReader plan old new (spared name) = IsAsTold (left_by_all old plan.inputs) new
LeavesReader plan old new (unseen name) = IsAsTold (left_by_all old plan.inputs) new
LeavesReader plan old new (unwritable name why) = IsAsTold (left_by_all old plan.inputs) new
LeavesReader plan old new (unkept name why) = IsAsTold (left_by_all old plan.inputs) new
LeavesReader plan old new unlisted = new ≡ old
LeavesReader plan old new no_memory = IsAsTold (left_by_all old plan.inputs) new
LeavesReader plan old new made_wrong = IsAsTold (left_by_all old plan.inputs) new

-- the calls before anything is checked or made: all inputs are read, and then the name is tried under which a file is to be kept
abbrev pub calls_before : Plan → Calls → Calls
calls_before plan old = with_trial (with_inputs old plan.inputs) plan.keeps_under

-- so they stand with a reply, and behind them the file's that is kept; an input that was not read, a trial or a keep that failed
-- is the last of them; a name under which a file is spared, or was to be looked at, isn't tried; and before any input is read there is
-- none
abbrev pub LeavesCalls : Plan → Calls → Calls → Outcome → Type 0
LeavesCalls plan old new (replied inputs reply) = new ≡ with_keep (calls_before plan old) plan.keeps_under (kept reply)
LeavesCalls plan old new (unread wanted why) =
    (before : List Wanted) × (behind : List Wanted) × (plan.inputs ≡ before ++ wanted ∷ behind)
    × (new ≡ with_input (with_inputs old before) wanted.name (Some why))
LeavesCalls plan old new (spared name) = new ≡ with_inputs old plan.inputs
LeavesCalls plan old new (unseen name) = new ≡ with_inputs old plan.inputs
LeavesCalls plan old new (unwritable name why) = new ≡ with_call (with_inputs old plan.inputs) (tries name (Some why))
LeavesCalls plan old new (unkept name why) = new ≡ with_call (calls_before plan old) (keeps name (Some why))
LeavesCalls plan old new unlisted = new ≡ old
LeavesCalls plan old new no_memory = new ≡ calls_before plan old
LeavesCalls plan old new made_wrong = new ≡ calls_before plan old

-- any file may be replaced, or, where the shelf tells its bytes, the one under the name is none that is spared
abbrev pub MayReplaceBy : Option (List Bytes) → List Wanted → Option Files → Bytes → Type 0
MayReplaceBy replaces inputs files name = IfSome replaces (λ fronts. IfSome files (λ told. is_spared inputs fronts told name ≡ false))

-- so it is by a plan, also for the bytes of its inputs
abbrev pub MayReplace : Plan → Option Files → List Bytes → Bytes → Type 0
MayReplace plan files inputs name = MayReplaceBy plan.replaces plan.inputs files name × HasNoSuch (plan.Spares inputs) files name

-- and under the name under which it keeps a file
abbrev pub IsFree : Plan → Option Files → List Bytes → Type 0
IsFree plan files inputs = (name : Bytes) → plan.keeps_under ≡ Some name → MayReplace plan files inputs name

-- the inputs hold bytes at the start for which it is
abbrev pub IsFreeAtStart : Plan → World → Type 0
IsFreeAtStart plan old = (inputs : List Bytes) × AreRead old.files old.reader plan.inputs inputs × IsFree plan old.files inputs

-- no name is tried, nothing is checked, made or kept, and no reply comes, where what is under it is spared
abbrev pub SparesFiles : Plan → World → Outcome → Type 0
SparesFiles plan old (unread wanted why) = ⊤
SparesFiles plan old unlisted = ⊤
SparesFiles plan old (spared name) = ⊤
SparesFiles plan old (unseen name) = ⊤
SparesFiles plan old (replied inputs reply) = IsFree plan old.files inputs
SparesFiles plan old other = IsFreeAtStart plan old

-- the text was written whole, and no write failed; or a write failed with at least one byte of it left to write
abbrev pub Says : Bytes → Status → Output → Output → Status → Type 0
Says text with_text old new status = (WritesAll old new text × (status ≡ with_text)) ⊎ (WritesFront old new text × (status ≡ Fault))

-- ---- how it ends

-- it does one thing that it has cause to do, leaves the files, the calls, the failures and the reader as that does, and says it
pub record Ends (plan : Plan) (old new : World) (status : Status) : Type 0 where
  pub outcome : Outcome
  pub cause : HasCause plan old new.failed outcome
  pub spares : SparesFiles plan old outcome
  pub files : LeavesFiles plan old.files new.files outcome
  pub calls : LeavesCalls plan old.calls new.calls outcome
  pub failure : LeavesFailure plan old.failed new.failed outcome
  pub reader : LeavesReader plan old.reader new.reader outcome
  pub said : Says (text_of outcome) (status_of outcome) old.written new.written status

-- ---- what follows for a yes or a no

-- the writer got exactly the lines of a right reply on the inputs at the start, and no write failed; of the files only the kept one
-- changed, where one was to be kept its name was tried behind the inputs and no trial failed, and the reader has what they left
pub record IsAnswered (plan : Plan) (old new : World) (status : Status) : Type 0 where
  pub inputs : List Bytes
  pub reply : Reply
  pub right : IsRight plan old inputs reply
  pub free : IsFree plan old.files inputs
  pub files : new.files ≡ with_kept old.files plan.keeps_under (kept reply)
  pub calls : new.calls ≡ with_keep (calls_before plan old.calls) plan.keeps_under (kept reply)
  pub failure : StaysCalm plan old.failed new.failed
  pub reader : IsAsTold (left_by_all old.reader plan.inputs) new.reader
  pub lines : WritesAll old.written new.written (reply_text reply)
  pub is_status : status ≡ status_of_reply reply.is_yes
