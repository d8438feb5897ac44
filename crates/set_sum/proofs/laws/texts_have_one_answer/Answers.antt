use Rattle.set_sum.proofs.AnswerLemmas.{bundle-no_fault, bundle-once, fault-once}
use Rattle.set_sum.proofs.DecidedLemmas.{bundle_answer}
use Rattle.set_sum.proofs.laws.texts_have_one_answer.Goals as goal

-- all tables and set texts make a bundle or have a fault
pub returns-clause-some : goal.returns-clause-some
returns-clause-some c tables text = bundle_answer tables text

-- no tables and set text make two different bundles
pub returns-clause-bundle : goal.returns-clause-bundle
returns-clause-bundle c tables text v w one other = bundle-once tables text v w one other

-- no tables and set text have two different faults
pub returns-clause-fault : goal.returns-clause-fault
returns-clause-fault c tables text f g one other = fault-once tables text f g one other

-- no tables and set text make a bundle and have a fault as well
pub returns-clause-either : goal.returns-clause-either
returns-clause-either c tables text v f is fault = bundle-no_fault tables text v f is fault
