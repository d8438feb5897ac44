use Rattle.tab_make.proofs.counts.write_entries_of_word.Given as goal

-- the orders of the word whose entries are left to write, as a number that gets less
abbrev pub decreases-loop-rest : goal.decreases-loop-rest
decreases-loop-rest l = l.rest
