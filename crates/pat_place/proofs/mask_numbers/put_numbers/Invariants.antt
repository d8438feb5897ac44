use Rattle.std.proofs.Common.{◌≡◌, ◌++◌}
use Rattle.puz_board.specs.Masks.{numbers_of}
use Rattle.pat_place.proofs.mask_numbers.put_numbers.Given as goal

-- the numbers in the list and behind them those that are left are the mask's
abbrev pub invariant-loop-rest : goal.invariant-loop-rest
invariant-loop-rest l = l.numbers.items ++ numbers_of l.rest ≡ numbers_of l.mask

-- the mask of the numbers that are left
abbrev pub decreases-loop-rest : goal.decreases-loop-rest
decreases-loop-rest l = l.rest
