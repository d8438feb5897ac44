-- What the steps in a table say, where each is right.
use Rattle.std.specs.Prelude.{◌≡◌, ℕ, ◌<◌, ◌⊎◌, List}
use Rattle.puz_board.specs.declared.moves.Move.{Move}
use Rattle.move_strings.specs.Automata.{left_out}
use Rattle.move_strings.specs.Drafts.{EndsWith}

-- after some moves: the next one is a state with whose label they end; or the step is left out, and they end with a string that
-- is said to be forbidden
abbrev pub IsRight : (ℕ → List Move) → ℕ → (ℕ → List Move) → ℕ → List Move → ℕ → Type 0
IsRight label states string strings moves next =
    ((next < states) × EndsWith moves (label next)) ⊎
    ((next ≡ left_out) × (number : ℕ) × (number < strings) × EndsWith moves (string number))
