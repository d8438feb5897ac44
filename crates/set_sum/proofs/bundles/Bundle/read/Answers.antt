use Rattle.set_sum.proofs.AnswerLemmas.{made, refused}
use Rattle.set_sum.proofs.bundles.Bundle.read.Goals as goal

-- where tables and a text make a bundle, this bundle is read from them
pub returns-clause-made : goal.returns-clause-made
returns-clause-made c bundle is = made c.args.tables.items c.args.text.now c.make_bundle.result c.make_bundle.ensures.ok c.make_bundle.ensures.err bundle is

-- where tables and a text have a fault, they are refused with this fault
pub returns-clause-refused : goal.returns-clause-refused
returns-clause-refused c fault is = refused c.args.tables.items c.args.text.now c.make_bundle.result c.make_bundle.ensures.ok c.make_bundle.ensures.err fault is
