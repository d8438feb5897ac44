-- Automata that read moves one by one, and refuse some.
use Rattle.std.specs.Prelude.{◌≡◌, ◌≢◌, ℕ, ◌+◌, ◌*◌, ◌<◌, ◌==◌, if◌then◌else◌, Bool, true, false, List, [], ◌∷◌, length, slice_index}
use Rattle.puz_board.specs.declared.moves.Move.{Move}
use Rattle.move_strings.specs.Strings.{HasForbidden, rank_of}

-- what stands in the place of a step that is left out
abbrev pub left_out : ℕ
left_out = 4294967295

-- what a contract sees of an automaton: the side of the boards, and its table, which has four steps for each state, one for each
-- move in the order of the letters: the number of the next state, or that the step is left out
pub record ShownAutomaton : Type 0 where
  pub side : ℕ
  pub steps : List ℕ

-- what stands at the step of a move from a state
abbrev pub next_at : List ℕ → ℕ → Move → ℕ
next_at steps state move = slice_index steps (4 * state + rank_of move)

-- whether it leaves out a step of the moves, read from a state on
abbrev pub refuses : List ℕ → ℕ → List Move → Bool
refuses steps state [] = false
refuses steps state (m ∷ ms) = if next_at steps state m == left_out then true else refuses steps (next_at steps state m) ms

-- the number of a state
abbrev pub IsState : List ℕ → ℕ → Type 0
IsState steps state = (move : Move) → 4 * state + rank_of move < length steps

-- it has a first state, and each step that isn't left out leads to a state; moves that it refuses from the first state on have a
-- string in them that is forbidden on boards of its side
pub record IsAutomaton (a : ShownAutomaton) : Type 0 where
  pub first : IsState a.steps 0
  pub next : (state : ℕ) (move : Move) → IsState a.steps state → next_at a.steps state move ≢ left_out → IsState a.steps (next_at a.steps state move)
  pub refused : (moves : List Move) → refuses a.steps 0 moves ≡ true → HasForbidden a.side moves

-- the table of the automaton of reversals: no move has arrived at the first state, and then come those at which U, D, L and R
-- have. A move leads to its own state, and the step of the move that takes the arriving one back is left out
abbrev pub reversal_steps : List ℕ
reversal_steps =
    1 ∷ 2 ∷ 3 ∷ 4 ∷
    1 ∷ left_out ∷ 3 ∷ 4 ∷
    left_out ∷ 2 ∷ 3 ∷ 4 ∷
    1 ∷ 2 ∷ 3 ∷ left_out ∷
    1 ∷ 2 ∷ left_out ∷ 4 ∷ []
