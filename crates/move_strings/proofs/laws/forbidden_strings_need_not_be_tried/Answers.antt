use Rattle.std.proofs.Common.{length, sym, subst, arith}
use Rattle.puz_board.specs.Boards.{IsBoardOf, IsGoal, blank}
use Rattle.puz_board.specs.Paths.{Leads}
use Rattle.puz_board.proofs.BoardLemmas.{side_of-board}
use Rattle.move_strings.proofs.PartLemmas.{forbidden_or}
use Rattle.move_strings.proofs.ReplaceLemmas.{least}
use Rattle.puz_board.proofs.PathLemmas.{led-board_after}
use Rattle.move_strings.proofs.TrailLemmas.{along}
use Rattle.std.specs.List.{AllByRecursion}
use Rattle.move_strings.specs.Strings.{HasString}
use Rattle.move_strings.proofs.laws.forbidden_strings_need_not_be_tried.Goals as goal

-- a board with a solution of fewer than r moves has one with no forbidden string in it
pub returns : goal.returns
returns c n strings each b good r path solves short =
    let first = along n b good path solves in
    let side = side_of-board n b good in
    let best = least n b good first.end (length first.moves) (λ moves. AllByRecursion (λ string. ¬ HasString moves string) strings)
    (λ moves leads few. forbidden_or n strings each moves) first.moves first.leads (omega arith) in
    let way = led-board_after b first.end best.moves (subst (λ k. IsBoardOf k b) (sym side) good) best.leads in
    let count = way.count in
    let few = best.few in
    let as_long = first.count in
    record {
      moves = best.moves;
      path = way.path;
      led = subst (λ k. Leads k (blank b) best.moves way.path) side way.led;
      solution = (way.walk, subst IsGoal (sym way.ends) first.goal);
      short = omega arith;
      without = best.without;
    }
