-- What leads a search: a bundle, whose sets cut boards off, and an automaton, which leaves moves out.
use Rattle.std.specs.Prelude.{◌≡◌, ◌≢◌, ℕ, List}
use Rattle.puz_board.specs.Cells.{reverse_of}
use Rattle.puz_board.specs.declared.moves.Move.{Move}
use Rattle.move_strings.specs.Automata.{IsAutomaton, IsState, ShownAutomaton, left_out, next_at}
use Rattle.set_sum.specs.Bundles.{IsBundle, ShownBundle}

-- what a contract sees of a guide: the bundle, and the steps of the automaton
pub record ShownGuide : Type 0 where
  pub bundle : ShownBundle
  pub steps : List ℕ

-- the automaton, for boards of the bundle's side
abbrev pub automaton_of : ShownGuide → ShownAutomaton
automaton_of g = record { side = g.bundle.side; steps = g.steps }

-- a bundle, and an automaton for boards of its side
pub record IsGuide (g : ShownGuide) : Type 0 where
  pub bundle : IsBundle g.bundle
  pub automaton : IsAutomaton (automaton_of g)

-- after a move from a state, unless it is left out itself, an automaton with these steps leaves out the move that takes it back
abbrev pub LeavesOutReturn : List ℕ → ℕ → Move → Type 0
LeavesOutReturn steps state move = next_at steps state move ≢ left_out → next_at steps (next_at steps state move) (reverse_of move) ≡ left_out

-- so it does after each move from each state
abbrev pub LeavesOutReversals : List ℕ → Type 0
LeavesOutReversals steps = (state : ℕ) (move : Move) → IsState steps state → LeavesOutReturn steps state move
