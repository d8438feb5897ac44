-- Where moves that an automaton doesn't refuse can't lead to the goal board early.
use Rattle.std.proofs.Common.{◌≡◌, ℕ, suc, ◌≤◌, ◌⊎◌, Bool, true, false, eqb, List, [], ◌∷◌, length, Some, None, inl, inr, refl, sym, ◌∙◌, ap, subst, arith}
use Rattle.std.specs.Prelude.{option_and_then}
use Rattle.std.proofs.lemmas.Bool.{cond-true, cond-false}
use Rattle.puz_board.specs.declared.moves.Move.{Move}
use Rattle.puz_board.specs.Boards.{IsBoardOf, IsGoal, moved}
use Rattle.puz_board.specs.Paths.{board_after}
use Rattle.puz_board.proofs.BoardLemmas.{side_of-board}
use Rattle.set_sum.specs.Bounds.{IsBounded}
use Rattle.set_sum.specs.Bundles.{IsBundle, ShownBundle}
use Rattle.set_sum.proofs.SayLemmas.{at_least_bounds}
use Rattle.move_strings.specs.Automata.{left_out, next_at, refuses}
use Rattle.move_strings.proofs.ReplaceLemmas.{least}
use Rattle.puz_board.proofs.PathLemmas.{led-board_after}
use Rattle.move_strings.proofs.TrailLemmas.{along}
use Rattle.puz_walk.specs.Walks.{IsCutOff}
use Rattle.puz_search.specs.Guides.{IsGuide, ShownGuide}
use Rattle.puz_search.specs.Searches.{leaves_out}

-- moves that the automaton doesn't refuse from the state on, and that lead from the board to the goal board, are r or more
abbrev pub IsEnough : List ℕ → ℕ → List ℕ → ℕ → List Move → Type 0
IsEnough steps state b r moves =
    refuses steps state moves ≡ false → (end : List ℕ) → board_after b moves ≡ Some end → IsGoal end → r ≤ length moves

-- a set cuts the board off
pub cut_enough : (v : ShownBundle) (steps : List ℕ) (state : ℕ) (b : List ℕ) (r : ℕ) → IsCutOff v b r → IsBundle v → IsBoardOf v.side b
    → (moves : List Move) → IsEnough steps state b r moves
cut_enough v steps state b r cut is good moves on end leads goal =
    let way = led-board_after b end moves (subst (λ n. IsBoardOf n b) (sym (side_of-board v.side b good)) good) leads in
    let low : r ≤ length way.path = at_least_bounds v is true cut.0 b r good cut.1 way.path (way.walk, subst IsGoal (sym way.ends) goal) in
    let count = way.count in
    omega arith

-- no moves, where the board isn't the goal board
pub far_enough : (steps : List ℕ) (state : ℕ) (b : List ℕ) (r : ℕ) → (¬ IsGoal b) → IsEnough steps state b r []
unfolding board_after
far_enough steps state b r far on end leads goal =
    let same : end ≡ b = cc in
    absurd (far (subst IsGoal same goal))

module _ (steps : List ℕ) (state : ℕ) (b : List ℕ) where
  -- the automaton leaves the step out
  pub left_out_enough : (r : ℕ) (move : Move) → leaves_out steps state move ≡ true → (moves : List Move) → IsEnough steps state b r (move ∷ moves)
  left_out_enough r move out moves on end leads goal =
      let refused : refuses steps state (move ∷ moves) ≡ true =
      cond-true (eqb (next_at steps state move) left_out) true (refuses steps (next_at steps state move) moves) out in
      let no : true ≡ false = sym refused ∙ on in
      cc

  -- the move would leave the board
  pub off_enough : (r : ℕ) (move : Move) → moved b move ≡ None → (moves : List Move) → IsEnough steps state b r (move ∷ moves)
  unfolding board_after
  off_enough r move off moves on end leads goal =
      let none : None ≡ Some end = sym (ap (option_and_then (λ d. board_after d moves)) off) ∙ leads in
      cc

  -- the move leads to a board, and the automaton to a state
  pub next_enough : (next : List ℕ) (r : ℕ) (move : Move) → leaves_out steps state move ≡ false → moved b move ≡ Some next
      → (moves : List Move) → IsEnough steps (next_at steps state move) next r moves → IsEnough steps state b (suc r) (move ∷ moves)
  unfolding board_after
  next_enough next r move kept leads moves enough on end ends goal =
      let goes_on : refuses steps (next_at steps state move) moves ≡ false =
      sym (cond-false (eqb (next_at steps state move) left_out) true (refuses steps (next_at steps state move) moves) kept) ∙ on in
      let after : board_after next moves ≡ Some end = sym (ap (option_and_then (λ e. board_after e moves)) leads) ∙ ends in
      let low : r ≤ length moves = enough goes_on end after goal in
      omega arith

refused_or : (t : Bool) → (t ≡ true) ⊎ (t ≡ false)
refused_or true = inl refl
refused_or false = inr refl

-- where all moves from the first state on are enough, the board is bounded: its least solution isn't refused
pub enough_bounds : (g : ShownGuide) → IsGuide g → (b : List ℕ) → IsBoardOf g.bundle.side b → (r : ℕ)
    → ((moves : List Move) → IsEnough g.steps 0 b r moves) → IsBounded b r
enough_bounds g is b good r each path solves =
    let n = g.bundle.side in
    let first = along n b good path solves in
    let best = least n b good first.end (length first.moves) (λ moves. r ≤ length moves)
    (λ moves leads few. elim (refused_or (refuses g.steps 0 moves)) [
      | inl refused ↦ inl (is.automaton.refused moves refused)
      | inr on ↦ inr (each moves on first.end leads first.goal)
    ])
    first.moves first.leads (omega arith) in
    let count = first.count in
    let few = best.few in
    let low = best.without in
    omega arith
