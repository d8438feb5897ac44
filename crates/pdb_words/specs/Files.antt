-- The files that a command names.
use Rattle.std.specs.Prelude.{List, [], codes, unwrap_or}
use Rattle.clap.specs.Walk.{Row, Rule, Text, all_of, first_of}
use Rattle.pdb_words.specs.Rows.{needed_file, needed_files}

-- the file of the sets
abbrev pub sets : Rule
sets = needed_file (codes "SETS")

-- the tables: one file or more
abbrev pub tables : Rule
tables = needed_files (codes "TABLES")

-- the name found for a file
abbrev pub file_in : Text → List Row → Text
file_in id rows = unwrap_or (first_of id rows) []

-- the names found for files
abbrev pub files_in : Text → List Row → List Text
files_in id rows = unwrap_or (all_of id rows) []

-- the names found for the tables
abbrev pub tables_in : List Row → List Text
tables_in rows = files_in (codes "TABLES") rows
