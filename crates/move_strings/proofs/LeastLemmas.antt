-- Least solutions.
use Rattle.std.proofs.Common.{◌≡◌, ℕ, zero, suc, ◌<◌, ◌≤◌, Bool, true, false, List, length, inl, inr, refl, arith}
use Rattle.std.proofs.lemmas.Bool.{cases_lt}
use Rattle.puz_board.specs.Boards.{IsBoardOf}
use Rattle.puz_board.specs.Paths.{IsSolution}
use Rattle.puz_board.specs.declared.moves.Move.{Move}
use Rattle.move_strings.specs.Automata.{IsAutomaton, ShownAutomaton, refuses}
use Rattle.move_strings.specs.Least.{IsLeastSolution, IsShortSolution}
use Rattle.move_strings.specs.Strings.{HasForbidden}
use Rattle.move_strings.proofs.OrderLemmas.{ComesBefore-spelled, spelled}
use Rattle.move_strings.proofs.ReplaceLemmas.{replaced}
use Rattle.move_strings.proofs.TrailLemmas.{along}

-- ---- no forbidden string

-- a least solution has no forbidden string in it
pub least-no_forbidden : (n : ℕ) (b : List ℕ) → IsBoardOf n b → (r : ℕ) (moves : List Move) → IsLeastSolution b r moves → ¬ HasForbidden n moves
least-no_forbidden n b good r moves is has =
    let new = replaced n b good moves is.solves.end is.solves.leads has in
    let few = new.few in
    let short = is.solves.short in
    is.least new.others new.before (record { end = is.solves.end; leads = new.leads; goal = is.solves.goal; short = omega arith })

kept_by : (t : Bool) → (t ≡ true → ⊥) → t ≡ false
kept_by true not = absurd (not refl)
kept_by false not = refl

-- no automaton refuses a least solution of a board of its side
pub least-kept : (a : ShownAutomaton) → IsAutomaton a → (b : List ℕ) → IsBoardOf a.side b → (r : ℕ) (moves : List Move) → IsLeastSolution b r moves
    → refuses a.steps 0 moves ≡ false
least-kept a is b good r moves least = kept_by (refuses a.steps 0 moves) (λ refused. least-no_forbidden a.side b good r moves least (is.refused moves refused))

-- ---- a board with no least solution has none

none_below : (b : List ℕ) (r : ℕ) → ((moves : List Move) → ¬ IsLeastSolution b r moves) → (k : ℕ) (moves : List Move) → spelled 0 moves < k
    → ¬ IsShortSolution b r moves
none_below b r none zero moves low solves = absurd (omega arith)
none_below b r none (suc k) moves low solves = none moves (record {
  solves = solves;
  least = λ others before other.
      let less = ComesBefore-spelled others moves before 0 in
      none_below b r none k others (omega arith) other;
})

-- a board without a least solution of fewer than r moves has no solution of fewer at all
pub no_least-bound : (n : ℕ) (b : List ℕ) → IsBoardOf n b → (r : ℕ) → ((moves : List Move) → ¬ IsLeastSolution b r moves) → (path : List ℕ)
    → IsSolution b path → r ≤ length path
no_least-bound n b good r none path solves = elim (cases_lt (length path) r) [
  | inl short ↦
      let way = along n b good path solves in
      let count = way.count in
      absurd (none_below b r none (suc (spelled 0 way.moves)) way.moves (omega arith)
      (record { end = way.end; leads = way.leads; goal = way.goal; short = omega arith }))
  | inr enough ↦ omega arith
]
