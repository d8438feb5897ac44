use Rattle.std.proofs.Common.{arith, refl}
use Rattle.pdb_checker.proofs.pdb_checker_optimal.Goals as goal

-- what is true of the claim is true of its moves
pub returns : goal.returns
returns c = record {
  yes = λ is.
      let holds = c.answer_one.ensures (omega (arith, is)) in
      let found = holds.2.optimal refl is in
      (holds.0, holds.1, found.0, found.1);
  shorter = λ is.
      let holds = c.answer_one.ensures (omega (arith, is)) in
      let less = holds.2.not_optimal refl is in
      (holds.0, less.n, less.m, holds.1, less.solved, less.fewer, less.shorter);
}
