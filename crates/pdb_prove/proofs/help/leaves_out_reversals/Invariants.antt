use Rattle.std.proofs.Common.{ℕ, ◌<◌}
use Rattle.puz_board.specs.declared.moves.Move.{Move}
use Rattle.puz_search.specs.Guides.{LeavesOutReturn}
use Rattle.pdb_prove.proofs.help.leaves_out_reversals.Given as goal

-- from the states before, each move that takes one back is left out
abbrev pub invariant-loop-state : goal.invariant-loop-state
invariant-loop-state l = (before : ℕ) (mv : Move) → before < l.state → LeavesOutReturn l.automaton.steps before mv
