-- What follows from lines that say that parts of a bound hold.
use Rattle.std.specs.Prelude.{◌≡◌, ℕ, ◌<◌, List, ◌++◌, codes, decimal, flat_map, true}
use Rattle.std.specs.List.{All}
use Rattle.puz_board.specs.Boards.{IsBoard}
use Rattle.puz_goal.specs.Goals.{IsBoundedFor, goal_words}
use Rattle.puz_goal.specs.Turning.{board_for}
use Rattle.move_strings.specs.BoundParts.{IsPartBounded}
use Rattle.claim_text.specs.Claims.{part_words}
use Rattle.claim_text.specs.Lines.{numbers}
use Rattle.claim_text.specs.Parts.{part_at}
use Rattle.pdb_parts.specs.Joining.{ShownBoundInParts, are_told, whole_lines}

-- where the line is `part i/k of bound n of` the numbers of this board and the words of this goal, with this bound and this count of
-- parts, that part holds of the board for the goal
abbrev pub IsTrueLine : ShownBoundInParts → List ℕ → Type 0
IsTrueLine asked line =
    (i : ℕ) → i < asked.count
    → line ≡ codes "part " ++ part_words (part_at asked.count i) ++ codes " of bound " ++ decimal asked.bound ++ codes " of" ++ numbers asked.board ++ goal_words asked.goal ++ codes "\n"
    → IsPartBounded (part_at asked.count i) asked.bound (board_for asked.goal asked.board)

-- each whole line of these texts of answers is true
abbrev pub AreTrueAnswers : ShownBoundInParts → List (List ℕ) → Type 0
AreTrueAnswers asked texts = All (IsTrueLine asked) (flat_map whole_lines texts)

-- lines that are true, and say of each part of a bound of a board that it holds, give the bound: no solution for the goal has fewer
-- moves
abbrev pub LinesGiveTheBound : Type 0
LinesGiveTheBound =
    (lines : List (List ℕ)) (asked : ShownBoundInParts) → IsBoard asked.board → 0 < asked.count → are_told lines asked ≡ true
    → All (IsTrueLine asked) lines → IsBoundedFor asked.goal asked.board asked.bound
