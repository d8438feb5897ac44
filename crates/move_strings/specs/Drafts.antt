-- Drafts of automata, and which of them are right.
use Rattle.std.specs.Prelude.{◌≡◌, ℕ, zero, suc, ◌*◌, ◌/◌, ◌%◌, ◌<◌, ◌==◌, if◌then◌else◌, List, [], ◌∷◌, ◌++◌, length, get_or, map, All}
use Rattle.std.specs.declared.vec.Vec.{Vec}
use Rattle.puz_board.specs.declared.moves.Move.{Move}
use Rattle.puz_board.specs.declared.moves.Move.TheVariants.{Up, Down, Left, Right}
use Rattle.move_strings.specs.Automata.{ShownAutomaton, left_out}
use Rattle.move_strings.specs.Strings.{IsWitness}
use Rattle.move_strings.specs.declared.drafts.Draft.{Draft}
use Rattle.move_strings.specs.declared.drafts.Transition.{Transition}
use Rattle.move_strings.specs.declared.drafts.Transition.TheVariants.{To, LeftOut}
use Rattle.move_strings.specs.declared.forbidden_strings.Forbidden.{Forbidden}

-- the label of a state
abbrev pub label_of : {Z : Type 0} → List (Vec Move Z) → ℕ → List Move
label_of [] state = []
label_of (label ∷ labels) zero = label.items
label_of (label ∷ labels) (suc state) = label_of labels state

-- a string that is said to be forbidden
abbrev pub string_of : List Forbidden → ℕ → List Move
string_of [] number = []
string_of (entry ∷ forbidden) zero = entry.string.items
string_of (entry ∷ forbidden) (suc number) = string_of forbidden number

-- the move with this place in the order of the letters
abbrev pub move_of_rank : ℕ → Move
move_of_rank rank =
    if rank == 0 then Up else
    if rank == 1 then Down else
    if rank == 2 then Left else Right

-- the moves end with the string
abbrev pub EndsWith : List Move → List Move → Type 0
EndsWith moves string = (front : List Move) × (moves ≡ front ++ string)

-- a step after some moves is right: it leads to a state with whose label they end; or it is left out, and they end with a string
-- that is said to be forbidden
abbrev pub IsRightStep : {Z : Type 0} → List (Vec Move Z) → List Forbidden → List Move → Transition → Type 0
IsRightStep labels forbidden moves (To state) = (state < length labels) × EndsWith moves (label_of labels state)
IsRightStep labels forbidden moves (LeftOut number) = (number < length forbidden) × EndsWith moves (string_of forbidden number)

-- the moves that the step at this place completes: the label of its state, and then its own move
abbrev pub moves_at : {Z : Type 0} → List (Vec Move Z) → ℕ → List Move
moves_at labels place = label_of labels (place / 4) ++ move_of_rank (place % 4) ∷ []

-- each step is right
abbrev pub AreRightSteps : {Z : Type 0} → List (Vec Move Z) → List Forbidden → List Transition → Type 0
AreRightSteps labels forbidden steps =
    (place : ℕ) (none : Transition) → place < length steps → IsRightStep labels forbidden (moves_at labels place) (get_or steps place none)

-- a draft is right for boards of side n: it has some states, whose numbers are below that of a step that is left out; no moves
-- stand for the first state; each string has the witness that is given with it; and of each state there are four steps, each of
-- which is right
pub record IsRightDraft (n : ℕ) (draft : Draft) : Type 0 where
  pub some : 0 < length draft.labels.items
  pub few : length draft.labels.items < left_out
  pub first : label_of draft.labels.items 0 ≡ []
  pub witnesses : All (λ entry. IsWitness n entry.string.items entry.witness.items) draft.forbidden.items
  pub four : length draft.steps.items ≡ 4 * length draft.labels.items
  pub steps : AreRightSteps draft.labels.items draft.forbidden.items draft.steps.items

-- what stands for a step in the table of an automaton
abbrev pub number_of : Transition → ℕ
number_of (To state) = state
number_of (LeftOut number) = left_out

-- the automaton of a draft
abbrev pub automaton_of : ℕ → Draft → ShownAutomaton
automaton_of n draft = record { side = n; steps = map number_of draft.steps.items }
