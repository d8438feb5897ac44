use Rattle.std.proofs.Common.{◌∙◌, arith}
use Rattle.pdb_run.proofs.ReadingLemmas.{read_next}
use Rattle.pdb_run.proofs.inputs.load_all.Goals as goal

-- reading one input more leaves all inputs so far read in their order, with room for the others
pub loop-input-preserved : goal.loop-input-preserved
loop-input-preserved g c = (
  read_next _ _ _ c.loop-input.invariant.0 c.loop-input-test.true c.in_default.ensures.read,
  c.load_next.ensures.same_streams ∙ c.loop-input.invariant.1,
  omega (arith, c.loop-input.invariant.2, c.load_next.ensures.same_room),
  grind arith,
)
