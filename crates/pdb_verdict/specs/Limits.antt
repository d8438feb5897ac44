-- The most bytes of each kind of input.
use Rattle.std.specs.Prelude.{ℕ, Option, Some}
use Rattle.tab_file.specs.TableFiles.{most_table_bytes}
use Rattle.log_file.specs.LogFiles.{most_log_bytes}
use Rattle.byte_io.specs.Shelf.{Bytes}
use Rattle.pdb_run.specs.Commands.{Wanted}

-- of a board text, a puzzle text or a set text
abbrev pub text_limit : ℕ
text_limit = 65536

-- a text under this name, or of the reader
abbrev pub a_text : Option Bytes → Wanted
a_text name = record { name = name; limit = text_limit }

-- a log file under this name
abbrev pub a_log : Bytes → Wanted
a_log name = record { name = Some name; limit = most_log_bytes }

-- a table file under this name
abbrev pub a_table : Bytes → Wanted
a_table name = record { name = Some name; limit = most_table_bytes }
