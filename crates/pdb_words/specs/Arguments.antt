-- What was found of a command's words.
use Rattle.std.specs.Prelude.{List}
use Rattle.clap.specs.Words.{Row, found_of, rows_of}
use Rattle.clap.specs.declared.ArgMatches.{ArgMatches}

-- the values found of a command
abbrev pub rows_found : ArgMatches → List Row
rows_found found = rows_of (found_of found)
