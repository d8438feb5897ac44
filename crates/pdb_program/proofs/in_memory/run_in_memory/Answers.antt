use Rattle.std.proofs.Common.{Some, [], ap, refl}
use Rattle.byte_io.specs.Memory.{files_in}
use Rattle.pdb_program.proofs.in_memory.run_in_memory.Goals as goal

-- the headline of a run in memory is that of the program on its files and its input
pub returns : goal.returns
returns g c = record {
  headline = λ parses.
      let ran = c.run-status in
      ran.ensures.headline (files_in c.args.files) (files_in ran.new.shelf) c.args.input.now [] ran.new.out.items parses refl refl refl
      (ap Some c.new-output.ensures.items) refl;
}
