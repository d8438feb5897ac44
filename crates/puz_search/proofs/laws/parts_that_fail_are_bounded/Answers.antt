use Rattle.puz_search.proofs.FailLemmas.{part_bounds}
use Rattle.puz_search.proofs.laws.parts_that_fail_are_bounded.Goals as goal

-- where the search of a part of a bound fails, the least solution of fewer moves isn't of the part
pub returns : goal.returns
returns c g is p r b good boards fails = part_bounds g is p r b boards good fails
