use Rattle.pdb_verdict.specs.Inputs.{given}
use Rattle.pdb_verdict.proofs.VerdictLemmas.{true_holds, true_is_yes, yes_is_true}
use Rattle.pdb_verdict.proofs.checks.verify.Goals as goal

-- a yes is true of the inputs, comes wherever it is true, and holds of all solutions
pub returns : goal.returns
returns g c =
    let inputs = given c.args.inputs.now in
    let answer = c.verify_by.result in
    let exact = c.verify_by.ensures in
    record {
      yes = yes_is_true inputs answer exact;
      always = true_is_yes inputs answer exact;
      holds = λ verdict same. true_holds inputs verdict (yes_is_true inputs answer exact verdict same);
      exact = exact;
    }
