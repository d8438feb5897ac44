use Rattle.claim_text.proofs.ReadingLemmas.{no_fault, one_fault, one_reading}
use Rattle.claim_text.proofs.RemarkLemmas.{no_claim}
use Rattle.claim_text.proofs.laws.texts_have_one_answer.Goals as goal

-- a text is that of one list of claims at most
pub returns-clause-claims : goal.returns-clause-claims
returns-clause-claims c = one_reading

-- a text has at most one first line that is no claim
pub returns-clause-fault : goal.returns-clause-fault
returns-clause-fault c = one_fault

-- a text of claims has no first line that is no claim
pub returns-clause-either : goal.returns-clause-either
returns-clause-either c = no_fault

-- no remark is a claim
pub returns-clause-remarks : goal.returns-clause-remarks
returns-clause-remarks c = no_claim
