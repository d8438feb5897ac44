-- A tree that refutes shorter solutions of a board bounds its solutions.
use Rattle.std.proofs.Common.{◌≡◌, ℕ, ◌-◌, ◌<◌, ◌≤◌, Bool, true, false, List, length, Option, Some, None, inl, inr, sym, subst, arith}
use Rattle.std.specs.Prelude.{slice_get}
use Rattle.puz_board.specs.declared.moves.Move.{Move}
use Rattle.puz_board.specs.declared.moves.Move.TheVariants.{Up, Down, Left, Right}
use Rattle.puz_board.specs.Boards.{IsBoardOf, moved}
use Rattle.puz_board.specs.Paths.{IsSolution}
use Rattle.puz_board.proofs.MovedLemmas.{IsBoardOf-moved}
use Rattle.set_sum.specs.Bounds.{IsBounded}
use Rattle.set_sum.specs.Bundles.{ShownBundle, IsBundle}
use Rattle.set_sum.proofs.SayLemmas.{at_least_bounds}
use Rattle.log_file.specs.Logs.{Lemma, Log}
use Rattle.log_check.specs.Refutations.{Cites, IsChild, Refutes, takes_back}
use Rattle.log_check.specs.Trees.{Tree, absent, leaf, citation, branch}
use Rattle.log_check.proofs.BranchLemmas.{Bounds, BoundsAfter, branch_bounds}

-- each lemma before this one bounds the solutions of its board
abbrev pub EarlierBound : List Lemma → ℕ → Type 0
EarlierBound lemmas i = (j : ℕ) (lemma : Lemma) → j < i → slice_get lemmas j ≡ Some lemma → IsBounded lemma.board lemma.bound

by_move : (P : Move → Type 0) → P Up → P Down → P Left → P Right → (move : Move) → P move
by_move P up down left right Up = up
by_move P up down left right Down = down
by_move P up down left right Left = left
by_move P up down left right Right = right

-- a child that is there
child_holds : (o : Option (List ℕ)) (back : Bool) (child : Tree) (Holds : List ℕ → Type 0) (next : List ℕ) → IsChild o back child Holds
    → o ≡ Some next → back ≡ false → Holds next
child_holds None back child Holds next is leads on = cc
child_holds (Some b) true child Holds next is leads on = cc
child_holds (Some b) false child Holds next is leads on = subst Holds (let e : b ≡ next = cc in e) is

module _ (v : ShownBundle) (is_bundle : IsBundle v) (log : Log) (i : ℕ) (earlier : EarlierBound log.lemmas i) where
  citation_bounds : (j : ℕ) (b : List ℕ) (r : ℕ) → Cites log.lemmas i j b r → IsBounded b r
  citation_bounds j b r cites = λ path solves.
      let low : cites.lemma.bound ≤ length path = earlier j cites.lemma cites.earlier cites.there path
      (subst (λ c. IsSolution c path) (sym cites.board) solves) in
      let enough : r ≤ cites.lemma.bound = cites.enough in
      omega arith

  child_bounds : (b : List ℕ) → IsBoardOf v.side b → (arriving : Option Move) (r : ℕ) (move : Move) (child : Tree)
      → ((next : List ℕ) → IsBoardOf v.side next → Refutes v log i child next (Some move) r → Bounds next (Some move) r)
      → IsChild (moved b move) (takes_back arriving move) child (λ next. Refutes v log i child next (Some move) r)
      → BoundsAfter b arriving r move
  child_bounds b good arriving r move child bounds is = λ next leads on.
      bounds next (IsBoardOf-moved v.side b good move next leads)
      (child_holds (moved b move) (takes_back arriving move) child (λ c. Refutes v log i child c (Some move) r) next is leads on)

  tree_bounds : (tree : Tree) (b : List ℕ) (arriving : Option Move) (r : ℕ) → IsBoardOf v.side b → Refutes v log i tree b arriving r → Bounds b arriving r
  tree_bounds absent b arriving r good refutes = absurd refutes
  tree_bounds (leaf by_parity set) b arriving r good refutes = λ path solves. inl (at_least_bounds v is_bundle by_parity set b r good refutes.1 path solves)
  tree_bounds (citation j) b arriving r good refutes = λ path solves. inl (citation_bounds j b r refutes path solves)
  tree_bounds (branch up down left right) b arriving r good refutes =
      branch_bounds v.side b good arriving r refutes.0 (by_move (BoundsAfter b arriving (r - 1))
      (child_bounds b good arriving (r - 1) Up up (λ next is h. tree_bounds up next (Some Up) (r - 1) is h) refutes.2)
      (child_bounds b good arriving (r - 1) Down down (λ next is h. tree_bounds down next (Some Down) (r - 1) is h) refutes.3)
      (child_bounds b good arriving (r - 1) Left left (λ next is h. tree_bounds left next (Some Left) (r - 1) is h) refutes.4)
      (child_bounds b good arriving (r - 1) Right right (λ next is h. tree_bounds right next (Some Right) (r - 1) is h) refutes.5))

  -- where no move led to the board
  pub first_tree_bounds : (tree : Tree) (b : List ℕ) (r : ℕ) → IsBoardOf v.side b → Refutes v log i tree b None r → IsBounded b r
  first_tree_bounds tree b r good refutes = λ path solves. elim (tree_bounds tree b None r good refutes path solves) [
    | inl enough ↦ enough
    | inr had ↦ absurd had
  ]
