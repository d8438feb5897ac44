use Rattle.std.proofs.Common.{refl}
use Rattle.pdb_words.proofs.command_line.command_line.Goals as goal

-- the whole command line is built as it is described, with all commands
pub returns : goal.returns
returns c = c.with_command.ensures _ _ refl (c.with_command-program-3.ensures _ _ refl (c.with_command-program-2.ensures _ _ refl
    (c.with_command-program.ensures _ _ refl c.checks.ensures c.make_table_command.ensures) c.solve_command.ensures) c.prove_command.ensures)
    c.parts_command.ensures
