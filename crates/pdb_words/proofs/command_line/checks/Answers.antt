use Rattle.std.proofs.Common.{refl}
use Rattle.pdb_words.proofs.command_line.checks.Goals as goal

-- the program with the commands that only check is built as it is described
pub returns : goal.returns
returns c = c.with_command.ensures _ _ refl (c.with_command-program-3.ensures _ _ refl (c.with_command-program-2.ensures _ _ refl
    (c.with_command-program.ensures _ _ refl c.program.ensures c.replay_command.ensures) c.table_command.ensures) c.bound_command.ensures)
    c.optimal_command.ensures
