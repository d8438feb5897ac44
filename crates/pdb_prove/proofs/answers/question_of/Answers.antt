use Rattle.std.proofs.Common.{ap}
use Rattle.puz_goal.specs.Turning.{moves_for}
use Rattle.puz_goal.proofs.SolvingLemmas.{solves_for}
use Rattle.claim_text.specs.Shown.{asks_shown, claim_shown}
use Rattle.pdb_prove.specs.Answers.{asks_for, claim_for}
use Rattle.pdb_prove.proofs.QuestionLemmas.{bound_found, part_found}
use Rattle.pdb_prove.proofs.answers.question_of.Goals as goal

-- a search below a bound answers the claim of the bound
pub returns-in-Bound-clause-ok : goal.returns-in-Bound-clause-ok
returns-in-Bound-clause-ok c = λ guide budget answer is.
    rw c.in-Bound.is (bound_found guide budget _ _ answer (rw c.whole.ensures at is))

-- a search of a part of a bound answers that of the part
pub returns-in-Part-clause-ok : goal.returns-in-Part-clause-ok
returns-in-Part-clause-ok c = λ guide budget answer is.
    rw c.in-Part.is (part_found guide budget _ _ _ answer (rw c.new.ensures at is))

-- a search for a shorter solution answers that of moves
pub returns-in-Ok-clause-ok : goal.returns-in-Ok-clause-ok
returns-in-Ok-clause-ok c =
    let home = c.args.goal in
    let claim = c.args.claim.now in
    let moves = c.in-Moves.moves.now in
    let solves = solves_for home claim.board moves c.in-Ok.count c.side-side.ensures.board c.in-Ok.ensures.ok in
    c.shorter_than.ensures (claim_for home (claim_shown claim)) (moves_for home moves) (ap (λ asks. asks_for home (asks_shown asks)) c.in-Moves.is) solves
