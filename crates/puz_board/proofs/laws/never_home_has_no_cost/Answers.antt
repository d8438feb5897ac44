use Rattle.puz_board.proofs.laws.never_home_has_no_cost.Goals as goal

-- tiles that no path leads home have no least cost on the board
pub returns : goal.returns
returns c tiles b d never is = never is.path is.leads
