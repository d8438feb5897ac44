-- What was read for a command stood under the names that it was given.
use Rattle.std.proofs.Common.{◌≡◌, ℕ, List, [], ◌∷◌, Option, Some, map, refl}
use Rattle.byte_io.specs.Shelf.{Bytes, Files}
use Rattle.pdb_request.specs.Asked.{LogArguments, ReplayArguments, TableArguments}
use Rattle.pdb_request.specs.declared.requests.LogClaim.{LogClaim}
use Rattle.pdb_run.specs.Commands.{Wanted}
use Rattle.pdb_run.specs.Inputs.{AreRead, IsReadFrom}
use Rattle.pdb_verdict.specs.Inputs.{LogFiles, files_in_order, puzzle_text, table_file}
use Rattle.pdb_verdict.specs.Limits.{a_table}
use Rattle.pdb_check.specs.Plans.{log_check_inputs, log_given, replay_inputs, table_inputs}

-- a file under this name of this many bytes at most
abbrev pub of_limit : ℕ → Bytes → Wanted
of_limit limit name = record { name = Some name; limit = limit }

-- files of a told shelf, name by name
pub files_stood : (before : Files) (reader : Option Bytes) (limit : ℕ) (names files : List Bytes)
    → AreRead (Some before) reader (map (of_limit limit) names) files → map before names ≡ map Some files
files_stood before reader limit [] [] read = refl
files_stood before reader limit (name ∷ names) (file ∷ files) read =
    let rest = files_stood before reader limit names files read.1 in
    λ i. read.0.0 i ∷ rest i
files_stood before reader limit _ _ read = absurd read

module _ (shelf : Option Files) (reader : Option Bytes) where
  -- the puzzle text of `replay`
  pub replay_stood : (arguments : ReplayArguments) (puzzle : Bytes)
      → AreRead shelf reader (replay_inputs arguments) (files_in_order (puzzle_text arguments.goal puzzle)) → IsReadFrom shelf reader arguments.puzzle puzzle
  replay_stood arguments puzzle read = read.0.0

  -- the table file of `table`
  pub table_stood : (arguments : TableArguments) (file : Bytes)
      → AreRead shelf reader (table_inputs arguments) (files_in_order (table_file file)) → IsReadFrom shelf reader (Some arguments.file) file
  table_stood arguments file read = read.0.0

  -- the files of `bound` or `optimal`
  pub record LogStood (arguments : LogArguments) (files : LogFiles) : Type 0 where
    pub text : IsReadFrom shelf reader (Some arguments.text) files.text
    pub sets : IsReadFrom shelf reader (Some arguments.sets) files.sets
    pub log : IsReadFrom shelf reader (Some arguments.log) files.log
    pub tables : AreRead shelf reader (map a_table arguments.tables) files.tables

  -- the files that were read for a check of a log are those under the names of its arguments
  pub log_stood : (claim : LogClaim) (arguments : LogArguments) (files : LogFiles)
      → AreRead shelf reader (log_check_inputs arguments) (files_in_order (log_given claim arguments files)) → LogStood arguments files
  log_stood claim arguments files read =
      record { text = read.0.0; sets = read.1.0.0; log = read.1.1.0.0; tables = read.1.1.1 }
