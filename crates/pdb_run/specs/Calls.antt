-- The calls of a run on its shelf and on its reader.
use Rattle.std.specs.Prelude.{List, [], ◌∷◌, Bool, true, Option, Some, None}
use Rattle.byte_io.specs.Shelf.{Bytes, Call, keeps, loads, told_then, tries}
use Rattle.byte_io.specs.declared.streams.ReadFault.{ReadFault}
use Rattle.pdb_run.specs.Commands.{Wanted}

-- the calls on a shelf, where it tells them, and whether a reader may have been read to its end: of one that tells it, whether it was
pub record Calls : Type 0 where
  pub shelf : Option (List Call)
  pub ended : Bool

-- the calls with these two
abbrev pub calls : Option (List Call) → Bool → Calls
calls shelf ended = record { shelf = shelf; ended = ended }

-- the calls so far, and this one on the shelf
abbrev pub with_call : Calls → Call → Calls
with_call before call = record before { shelf = told_then before.shelf call }

-- ---- inputs

-- the calls so far, and the reading of an input of this name, which came to this fault, if to any; the reader is read to its end
-- where it came to none
abbrev pub with_input : Calls → Option Bytes → Option ReadFault → Calls
with_input before (Some name) fault = with_call before (loads name fault)
with_input before None None = record before { ended = true }
with_input before None (Some fault) = before

-- and the reading of several, which came to none
abbrev pub with_inputs : Calls → List Wanted → Calls
with_inputs before [] = before
with_inputs before (wanted ∷ more) = with_inputs (with_input before wanted.name None) more

-- ---- what is kept

-- and the trial of a name, where there is one
abbrev pub with_trial : Calls → Option Bytes → Calls
with_trial before None = before
with_trial before (Some name) = with_call before (tries name None)

-- and the keeping of a file under a name, where there are both
abbrev pub with_keep : Calls → Option Bytes → Option Bytes → Calls
with_keep before None file = before
with_keep before (Some name) None = before
with_keep before (Some name) (Some file) = with_call before (keeps name None)
