-- A shelf: the bytes that stand under names, as files do.
use Rattle.std.specs.Prelude.{◌≡◌, ◌≢◌, ◌==◌, ℕ, Bool, false, List, [], ◌∷◌, ◌++◌, Option, Some, None, Result, Ok, Err, fold, if◌then◌else◌, option_map}
use Rattle.std.specs.List.{starts_with}
use Rattle.std.specs.Option.{option_map_or}
use Rattle.std.specs.Borrow.{Bor}
use Rattle.std.specs.Str.{bytes_eq}
use Rattle.byte_io.specs.declared.shelf.KeepFault.{KeepFault}
use Rattle.byte_io.specs.declared.streams.ReadFault.{ReadFault}

-- bytes, each a number below 256; a name is the bytes of its text
abbrev pub Bytes : Type 0
Bytes = List ℕ

-- the bytes under each name that has some
abbrev pub Files : Type 0
Files = Bytes → Option Bytes

-- a folder without files
abbrev pub no_files : Files
no_files name = None

-- the same files, but for these bytes under this name
abbrev pub with_file : Files → Bytes → Bytes → Files
with_file files name bytes other = if bytes_eq name other then Some bytes else files other

-- the files of a list of names and bytes, where the last of a name counts
abbrev pub files_of : List (Bor Bytes × Bor Bytes) → Files
files_of = fold (λ files pair. with_file files pair.0.now pair.1.now) no_files

-- told files, with these bytes under this name
abbrev pub told_with : Option Files → Bytes → Bytes → Option Files
told_with files name bytes = option_map (λ told. with_file told name bytes) files

-- what is told of each other name is the same; of this one nothing is said
abbrev pub KeepsOthers : Option Files → Option Files → Bytes → Type 0
KeepsOthers old new name = (other : Bytes) → other ≢ name → option_map (λ told. told other) new ≡ option_map (λ told. told other) old

-- the bytes under this name begin so; where there are none, they don't
abbrev pub begins_with : Files → Bytes → Bytes → Bool
begins_with files name front = option_map_or (λ bytes. starts_with ◌==◌ bytes front) (files name) false

-- ---- the calls on a shelf

-- what is under a name was to be loaded, the name was tried, or bytes were to be kept under it; and the fault of that, where there
-- was one
pub data Call : Type 0 where
  loads : Bytes → Option ReadFault → Call
  tries : Bytes → Option KeepFault → Call
  keeps : Bytes → Option KeepFault → Call

-- the fault that a call answers, if any
abbrev pub fault_of : {A F : Type 0} → Result A F → Option F
fault_of (Ok answer) = None
fault_of (Err fault) = Some fault

-- told calls, and this one behind them
abbrev pub told_then : Option (List Call) → Call → Option (List Call)
told_then calls call = option_map (λ told. told ++ call ∷ []) calls
