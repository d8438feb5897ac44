use Rattle.claim_text.proofs.AnswerLemmas.{answer_begins}
use Rattle.claim_text.proofs.laws.answers_begin.Goals as goal

-- a line that answers a claim begins as its kind does
pub returns : goal.returns
returns c = answer_begins
