-- What holds of the answers.
use Rattle.std.specs.Prelude.{ℕ, ◌≤◌, Bool, List, ⊤}
use Rattle.std.specs.List.{AllByRecursion}
use Rattle.puz_board.specs.Boards.{IsBoard}
use Rattle.puz_goal.specs.Goals.{IsBoundedFor, SolvesFor}
use Rattle.puz_goal.specs.Turning.{board_for}
use Rattle.puz_goal.specs.declared.goals.Goal.{Goal}
use Rattle.move_strings.specs.BoundParts.{IsPart, IsPartBounded}
use Rattle.claim_text.specs.Lines as line
use Rattle.claim_text.specs.Lines.{Told}
use Rattle.pdb_prove.specs.Prove.{AreAnswered, ClaimsFiles}

-- what is told as a yes is true of its board, for the goal: it has no solution of fewer moves; or the least solution of fewer
-- moves, if the board as it is for the goal has one, isn't of the part; or these moves, so many of them, are a shortest solution
abbrev pub IsTrueFor : Goal → Told → Type 0
IsTrueFor goal (line.bounded n b) = IsBoard b × IsBoundedFor goal b n
IsTrueFor goal (line.part_bounded p n b) = IsBoard b × IsPart p × (n ≤ 255) × IsPartBounded p n (board_for goal b)
IsTrueFor goal (line.optimal n b moves) = IsBoard b × SolvesFor goal b moves n × IsBoundedFor goal b n
IsTrueFor goal (line.shorter solution claim) = ⊤
IsTrueFor goal (line.refused what claim) = ⊤

-- so it is of all that is told of claims
abbrev pub ToldIsTrue : Type 0
ToldIsTrue =
    (goal : Goal) (fold : Bool) (budget : ℕ) (files : ClaimsFiles) (told : List Told) → AreAnswered goal fold budget files told
    → AllByRecursion (IsTrueFor goal) told
