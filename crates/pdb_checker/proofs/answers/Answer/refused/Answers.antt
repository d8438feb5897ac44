use Rattle.std.proofs.Common.{◌≤◌, subst, sym}
use Rattle.pdb_checker.proofs.AnswerLemmas.{refused_status}
use Rattle.pdb_checker.proofs.answers.Answer.refused.Goals as goal

-- no refusal has the status of a yes or of a shorter solution
pub returns-clause-status : goal.returns-clause-status
returns-clause-status c = subst (λ n. 2 ≤ n) (sym c.of.ensures.status) (refused_status c.args.fault)
