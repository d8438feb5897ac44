use Rattle.std.proofs.Common.{arith, refl}
use Rattle.pdb_checker.proofs.pdb_checker_shortest.Goals as goal

-- what is true of the claim is true of the moves that are found
pub returns : goal.returns
returns c = record {
  yes = λ is.
      let holds = c.answer_one.ensures (omega (arith, is)) in
      let found = holds.2.shortest refl is in
      (holds.0, holds.1, found.0, found.1);
}
