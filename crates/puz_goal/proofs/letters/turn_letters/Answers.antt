use Rattle.puz_goal.proofs.LetterLemmas.{one_turned}
use Rattle.puz_goal.proofs.letters.turn_letters.Goals as goal

-- with one letter turned, those up to it are
pub loop-i-preserved : goal.loop-i-preserved
loop-i-preserved c = one_turned c.args.text.now c.loop-i.text c.loop-i.i c.turned_letter.result c.loop-i-test.true c.loop-i.invariant c.turned_letter.ensures
