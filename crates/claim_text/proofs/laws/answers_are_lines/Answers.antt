use Rattle.claim_text.proofs.AnswerLemmas.{answer-no_lf}
use Rattle.claim_text.proofs.laws.answers_are_lines.Goals as goal

-- a line that answers a claim has no LF but the one at its end
pub returns : goal.returns
returns c = answer-no_lf
