use Rattle.puz_goal.proofs.ReplayLemmas.{AreKept}
use Rattle.puz_goal.proofs.replays.turned_letters.Given as goal

-- as many letters are kept as tell what the moves so far do
abbrev pub invariant-loop-b : goal.invariant-loop-b
invariant-loop-b l = AreKept l.text l.letters.items l.b-index
