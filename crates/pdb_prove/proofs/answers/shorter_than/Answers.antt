use Rattle.pdb_prove.proofs.QuestionLemmas.{few_moves, many_moves}
use Rattle.pdb_prove.proofs.answers.shorter_than.Goals as goal

-- few moves are a shortest solution where none has fewer
pub returns-then-count-le255 : goal.returns-then-count-le255
returns-then-count-le255 c = λ claim moves asks solves guide budget answer is.
    rw asks (few_moves guide budget claim.board moves c.args.count solves c.if-count-le255.true answer (rw c.whole.ensures at is))

-- of more moves that isn't said
pub returns-else-count-le255 : goal.returns-else-count-le255
returns-else-count-le255 c = λ claim moves asks solves guide budget answer is.
    rw asks (many_moves guide budget claim.board moves c.args.count solves c.if-count-le255.false answer (rw c.whole-else-count-le255.ensures at is))
