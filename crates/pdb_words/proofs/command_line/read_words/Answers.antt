use Rattle.std.proofs.Common.{map, string_bytes}
use Rattle.clap.specs.Words.{subcommand_rows_of}
use Rattle.pdb_words.proofs.CommandLemmas.{value_cause}
use Rattle.pdb_words.proofs.command_line.read_words.Goals as goal

-- a wrong value in words that match gives cause for the fault that is answered of it
pub returns-in-Ok-clause-cause : goal.returns-in-Ok-clause-cause
returns-in-Ok-clause-cause c = value_cause (map string_bytes c.args.words.now)
    (subcommand_rows_of c.in-Ok.matches) c.in-Some.fault c.in-Ok.ensures.rows c.in-Some.ensures.faults c.in-Some.ensures.kind
