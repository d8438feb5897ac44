use Rattle.puz_board.proofs.OnesLemmas.{Holds}
use Rattle.puz_board.proofs.masks.select.Given as goal

-- the number with so many set bits below it is among the numbers that are left
abbrev pub invariant-loop-span : goal.invariant-loop-span
invariant-loop-span l = Holds l.mask l.place l.number l.span

-- how many numbers are left gets less with each halving
abbrev pub decreases-loop-span : goal.decreases-loop-span
decreases-loop-span l = l.span
