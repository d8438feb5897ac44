use Rattle.std.proofs.Common.{sym, subst}
use Rattle.puz_board.specs.declared.moves.Move.TheVariants.{Left, Right}
use Rattle.puz_board.specs.Cells.{IsTakenBackBy}
use Rattle.puz_board.proofs.CellLemmas.{reverse_of-takes_back}
use Rattle.puz_board.proofs.moves.Move.reverse.Goals as goal

-- wherever a move to the left leads, the move to the right leads back
pub returns-in-Left-clause-taken_back : goal.returns-in-Left-clause-taken_back
returns-in-Left-clause-taken_back c = subst (λ m. IsTakenBackBy m Right) (sym c.in-Left.is) (reverse_of-takes_back Left)

-- wherever a move to the right leads, the move to the left leads back
pub returns-in-Right-clause-taken_back : goal.returns-in-Right-clause-taken_back
returns-in-Right-clause-taken_back c = subst (λ m. IsTakenBackBy m Left) (sym c.in-Right.is) (reverse_of-takes_back Right)
