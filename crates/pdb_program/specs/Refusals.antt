-- What a run says of words that don't parse.
use Rattle.std.specs.Prelude.{◌≡◌, ◌⊎◌, List, Option}
use Rattle.std.specs.Io.KnownBytes.{Appends, Keeps}
use Rattle.byte_io.specs.Shelf.{Bytes}
use Rattle.byte_io.specs.Streams.{AppendsFront, Output}
use Rattle.pdb_run.specs.Writing.{memory_line}
use Rattle.pdb_run.specs.Runs.{Says}
use Rattle.pdb_run.specs.declared.statuses.Status.{Status}
use Rattle.pdb_run.specs.declared.statuses.Status.TheVariants.{Yes, Fault, NoMemory}
use Rattle.pdb_words.specs.Faults.{AsksForHelp, AsksForVersion, IsMistaken, version_line}

-- a text was written whole, or a proper front of it
abbrev pub AppendsWholeOrFront : Bytes → Option Bytes → Option Bytes → Type 0
AppendsWholeOrFront text old new = Appends old new text ⊎ AppendsFront old new text

-- the errors got some text, and the output nothing
abbrev pub TellsMistake : (old_out new_out : Output) (old_err new_err : Option Bytes) → Status → Type 0
TellsMistake old_out new_out old_err new_err status =
    (new_out ≡ old_out) × ((text : Bytes) × AppendsWholeOrFront text old_err new_err) × (status ≡ Fault)

-- the output got a text behind what stood there, with a yes, or a proper front of it
abbrev pub ShowsHelp : (old_out new_out : Output) → Status → Type 0
ShowsHelp old_out new_out status = (help : Bytes) × Says help Yes old_out new_out status

-- want of memory, or a mistake on the errors, or help or the version on the output
abbrev pub Refuses : List Bytes → (old_out new_out : Output) (old_err new_err : Option Bytes) → Status → Type 0
Refuses words old_out new_out old_err new_err status =
    (Says memory_line NoMemory old_out new_out status × Keeps old_err new_err)
    ⊎ (IsMistaken words × TellsMistake old_out new_out old_err new_err status)
    ⊎ (AsksForHelp words × ShowsHelp old_out new_out status × Keeps old_err new_err)
    ⊎ (AsksForVersion words × Says version_line Yes old_out new_out status × Keeps old_err new_err)
