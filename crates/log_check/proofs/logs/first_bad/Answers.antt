use Rattle.log_check.proofs.FirstBadLemmas.{first_bad_whole, good_whole}
use Rattle.log_check.proofs.logs.first_bad.Goals as goal

-- the least lemma that the jobs give is the first that isn't good
pub returns-in-Ok-Some : goal.returns-in-Ok-Some
returns-in-Ok-Some g c =
    first_bad_whole c.args.bundle.now c.requires.bundle c.args.log.now c.requires.log c.requires.side c.in-Ok-Some.number
    (rw c.in-Ok-Some.field-0-is at c.in-Ok-Some.ensures)

-- where the jobs give no lemma, all of them are good
pub returns-in-Ok-None : goal.returns-in-Ok-None
returns-in-Ok-None g c =
    good_whole c.args.bundle.now c.requires.bundle c.args.log.now c.requires.log c.requires.side
    (rw c.in-Ok-None.field-0-is at c.in-Ok-None.ensures)
