-- The words of `table [--workers N] FILE`.
use Rattle.std.specs.Prelude.{List, [], ◌∷◌, codes}
use Rattle.clap.specs.Walk.{Row}
use Rattle.clap.specs.Simple.{App}
use Rattle.pdb_request.specs.Asked.{Asked, table}
use Rattle.pdb_words.specs.Files.{file_in}
use Rattle.pdb_words.specs.Rows.{command, needed_file}
use Rattle.pdb_words.specs.Workers.{workers_flag, workers_in}

-- the command, as `clap` sees it
abbrev pub table_command : App
table_command = command (codes "table") (workers_flag ∷ needed_file (codes "FILE") ∷ [])

-- what the values found of it ask for
abbrev pub table_in : List Row → Asked
table_in rows = table (record { file = file_in (codes "FILE") rows; workers = workers_in rows })
