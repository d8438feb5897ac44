use Rattle.std.proofs.Common.{arith, refl}
use Rattle.pdb_checker.proofs.pdb_checker_bound.Goals as goal

-- what is true of the claim is true of the bound
pub returns : goal.returns
returns c = record {
  yes = λ is. let holds = c.answer_one.ensures (omega (arith, is)) in (holds.0, holds.1, holds.2.bound refl is);
  shorter = λ is. let holds = c.answer_one.ensures (omega (arith, is)) in (holds.0, holds.1, holds.2.no_bound refl is);
}
