use Rattle.std.proofs.Common.{◌≡◌, ◌⊎◌, Bool, true, false, length, inl, inr, refl, sym, subst, arith}
use Rattle.puz_board.specs.Boards.{IsBoardOf, IsGoal, blank}
use Rattle.puz_board.specs.Paths.{Leads}
use Rattle.puz_board.proofs.BoardLemmas.{side_of-board}
use Rattle.move_strings.specs.Automata.{refuses}
use Rattle.move_strings.proofs.ReplaceLemmas.{least}
use Rattle.puz_board.proofs.PathLemmas.{led-board_after}
use Rattle.move_strings.proofs.TrailLemmas.{along}
use Rattle.move_strings.proofs.laws.automata_keep_a_solution.Goals as goal

refused_or : (t : Bool) → (t ≡ true) ⊎ (t ≡ false)
refused_or true = inl refl
refused_or false = inr refl

-- a board with a solution of fewer than r moves has one that the automaton doesn't refuse
pub returns : goal.returns
returns c a is b good r path solves short =
    let first = along a.side b good path solves in
    let side = side_of-board a.side b good in
    let best = least a.side b good first.end (length first.moves) (λ moves. refuses a.steps 0 moves ≡ false)
    (λ moves leads few. elim (refused_or (refuses a.steps 0 moves)) [
      | inl refused ↦ inl (is.refused moves refused)
      | inr on ↦ inr on
    ])
    first.moves first.leads (omega arith) in
    let way = led-board_after b first.end best.moves (subst (λ k. IsBoardOf k b) (sym side) good) best.leads in
    let count = way.count in
    let few = best.few in
    let as_long = first.count in
    record {
      moves = best.moves;
      path = way.path;
      led = subst (λ k. Leads k (blank b) best.moves way.path) side way.led;
      solution = (way.walk, subst IsGoal (sym way.ends) first.goal);
      short = omega arith;
      kept = best.without;
    }
