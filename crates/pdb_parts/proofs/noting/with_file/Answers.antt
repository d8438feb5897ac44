use Rattle.pdb_parts.specs.Stored.{shown}
use Rattle.pdb_parts.proofs.NotingLemmas.{still_false}
use Rattle.pdb_parts.proofs.noting.with_file.Goals as goal

-- the first moves that lines show are still the first
pub returns-in-Against : goal.returns-in-Against
returns-in-Against c = λ names answers is.
    still_false (shown c.args.asked.now) names answers c.args.name.now c.args.text.now (rw c.in-Against.is at is)
