use Rattle.std.proofs.Common.{◌≡◌, map, take}
use Rattle.clap.specs.Words.{app_of}
use Rattle.pdb_words.specs.Rows.{command}
use Rattle.pdb_words.specs.StoredRows.{rule_of_row}
use Rattle.pdb_words.proofs.rows.command_of.Given as goal

-- the command takes the first rows
abbrev pub invariant-loop-row : goal.invariant-loop-row
invariant-loop-row l = app_of l.command ≡ command l.page.name.now (map rule_of_row (take l.row-index l.rows))
