use Rattle.edge_words.proofs.fills.+fill_by+fn-fill_by-join_mut+arg2+fn-fill_by-join_mut+arg3.Given as goal

-- what gets less with each split of a span: the number of threads
abbrev pub decreases-fill_by : goal.decreases-fill_by
decreases-fill_by g l = l.threads

-- what the thread of the front is measured by: half of the threads
abbrev pub decreases-join_mut+arg2 : goal.decreases-join_mut+arg2
decreases-join_mut+arg2 g l = l.half

-- what the thread of the back is measured by: the threads left over by the front
abbrev pub decreases-join_mut+arg3 : goal.decreases-join_mut+arg3
decreases-join_mut+arg3 g l = l.others
