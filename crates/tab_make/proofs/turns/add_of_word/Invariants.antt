use Rattle.tab_make.proofs.turns.add_of_word.Given as goal

-- the orders of the word whose turned orders are left to add, as a number that gets less
abbrev pub decreases-loop-rest : goal.decreases-loop-rest
decreases-loop-rest l = l.rest
