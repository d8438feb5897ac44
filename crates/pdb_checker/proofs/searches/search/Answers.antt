use Rattle.pdb_checker.proofs.searches.search.Goals as goal

-- what the search below the bound answers is found
pub returns-in-Below : goal.returns-in-Below
returns-in-Below c = rw c.in-Below.is (c.found_below.ensures _ _ _ _ (rw c.whole-bound.ensures at c.refute_by_thresholds_alone.ensures))

-- what the search for a shortest solution answers is found
pub returns-in-Shortest : goal.returns-in-Shortest
returns-in-Shortest c = rw c.in-Shortest.is (c.found_shortest.ensures _ _ _ c.shortest_alone.ensures)
