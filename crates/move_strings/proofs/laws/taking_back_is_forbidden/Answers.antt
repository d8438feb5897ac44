use Rattle.move_strings.proofs.ReversalLemmas.{IsForbidden-reversal}
use Rattle.move_strings.proofs.laws.taking_back_is_forbidden.Goals as goal

-- a move and then the one that takes it back are a forbidden string
pub returns : goal.returns
returns c n m = IsForbidden-reversal n m
