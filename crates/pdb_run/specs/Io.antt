-- What one call on a run's shelf, its reader and its output does to the world, and what several do.
use Rattle.std.specs.Prelude.{◌≡◌, ⊤, ℕ, List, Option, Some, None, Result, true}
use Rattle.byte_io.specs.Shelf.{Bytes, KeepsOthers, keeps, tries}
use Rattle.byte_io.specs.Streams.{Writes}
use Rattle.byte_io.specs.declared.shelf.KeepFault.{KeepFault}
use Rattle.byte_io.specs.declared.shelf.KeepFault.TheVariants as keep
use Rattle.byte_io.specs.declared.streams.ReadFault.{ReadFault}
use Rattle.byte_io.specs.declared.streams.WriteFault.{WriteFault}
use Rattle.pdb_run.specs.Calls.{with_call, with_input, with_inputs, with_keep, with_trial}
use Rattle.pdb_run.specs.Commands.{Plan, Wanted}
use Rattle.pdb_run.specs.Inputs.{AreRead, IsAsTold, IsFirstUnread, IsRead, IsUnread, left, left_by_all}
use Rattle.pdb_run.specs.Runs.{MayReplace, Says, World, with_kept}
use Rattle.pdb_run.specs.declared.statuses.Status.{Status}

-- the shelf, the reader and the output that are borrowed, each by a number of its reference
pub record Streams : Type 0 where
  pub shelf : ℕ
  pub reader : ℕ
  pub out : ℕ

-- ---- one call

-- the input has these bytes, the reader has what the input left, and nothing else has changed
pub record IsLoaded (wanted : Wanted) (old new : World) (bytes : Bytes) : Type 0 where
  pub read : IsRead old.files old.reader wanted bytes
  pub behind : IsAsTold (left old.reader wanted.name) new.reader
  pub calls : new.calls ≡ with_input old.calls wanted.name None
  pub files : new.files ≡ old.files
  pub failed : new.failed ≡ old.failed
  pub written : new.written ≡ old.written

-- the input was not read for this cause; how far the reader was read is open
pub record IsNotLoaded (wanted : Wanted) (old new : World) (why : ReadFault) : Type 0 where
  pub cause : IsUnread old.files old.reader new.failed wanted why
  pub calls : new.calls ≡ with_input old.calls wanted.name (Some why)
  pub files : new.files ≡ old.files
  pub written : new.written ≡ old.written

-- the name was tried, and nothing else has changed
pub record IsTried (name : Bytes) (old new : World) : Type 0 where
  pub calls : new.calls ≡ with_trial old.calls (Some name)
  pub files : new.files ≡ old.files
  pub failed : new.failed ≡ old.failed
  pub reader : new.reader ≡ old.reader
  pub written : new.written ≡ old.written

-- nothing can be kept under the name, since the shelf has failed or memory was wanted to try it; nothing else has changed
pub record CanNotKeep (name : Bytes) (old new : World) (why : KeepFault) : Type 0 where
  pub calls : new.calls ≡ with_call old.calls (tries name (Some why))
  pub files : new.files ≡ old.files
  pub has_failed : why ≡ keep.F3 → new.failed.shelf ≡ true
  pub reader : new.reader ≡ old.reader
  pub written : new.written ≡ old.written

-- the file, where there is one, was kept under the name, and nothing else has changed
pub record IsKept (name : Bytes) (file : Option Bytes) (old new : World) : Type 0 where
  pub calls : new.calls ≡ with_keep old.calls (Some name) file
  pub files : new.files ≡ with_kept old.files (Some name) file
  pub failed : new.failed ≡ old.failed
  pub reader : new.reader ≡ old.reader
  pub written : new.written ≡ old.written

-- it was not, since the shelf has failed or memory was wanted; what the name has is open, and nothing else has changed
pub record IsNotKept (name : Bytes) (old new : World) (why : KeepFault) : Type 0 where
  pub calls : new.calls ≡ with_call old.calls (keeps name (Some why))
  pub files : KeepsOthers old.files new.files name
  pub has_failed : why ≡ keep.F3 → new.failed.shelf ≡ true
  pub reader : new.reader ≡ old.reader
  pub written : new.written ≡ old.written

-- the text was written whole, or where a write failed a proper front of it, and nothing else has changed
pub record IsWritten (text : Bytes) (old new : World) (result : Result ⊤ WriteFault) : Type 0 where
  pub written : Writes old.written new.written text result
  pub calls : new.calls ≡ old.calls
  pub files : new.files ≡ old.files
  pub failed : new.failed ≡ old.failed
  pub reader : new.reader ≡ old.reader

-- the same, with the status of a run that ends so
pub record IsSaid (text : Bytes) (with_text : Status) (old new : World) (status : Status) : Type 0 where
  pub said : Says text with_text old.written new.written status
  pub calls : new.calls ≡ old.calls
  pub files : new.files ≡ old.files
  pub failed : new.failed ≡ old.failed
  pub reader : new.reader ≡ old.reader

-- ---- inputs in a row

-- these are the bytes of the inputs, the reader has what they left, and nothing else has changed
pub record HasRead (wanted : List Wanted) (old new : World) (inputs : List Bytes) : Type 0 where
  pub read : AreRead old.files old.reader wanted inputs
  pub behind : IsAsTold (left_by_all old.reader wanted) new.reader
  pub calls : new.calls ≡ with_inputs old.calls wanted
  pub files : new.files ≡ old.files
  pub failed : new.failed ≡ old.failed
  pub written : new.written ≡ old.written

-- those of a plan were read, what is under the name isn't spared, and then the name was tried
pub record HasReadAndTried (plan : Plan) (name : Bytes) (old new : World) (inputs : List Bytes) : Type 0 where
  pub mid : World
  pub are : HasRead plan.inputs old mid inputs
  pub free : MayReplace plan old.files inputs name
  pub tried : IsTried name mid new

-- this input is the first that was not read
pub record HasStopped (all : List Wanted) (old new : World) (wanted : Wanted) (why : ReadFault) : Type 0 where
  pub first : IsFirstUnread old.files old.reader new.failed all wanted why
  pub calls : new.calls ≡ with_input (with_inputs old.calls first.before) wanted.name (Some why)
  pub files : new.files ≡ old.files
  pub written : new.written ≡ old.written
