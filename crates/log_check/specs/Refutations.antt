-- When a tree refutes that a board has a solution of fewer moves than a bound (Korf 1985: a search that fails below a
-- threshold; its branches leave out the move that takes back the one before).
use Rattle.std.specs.Prelude.{◌≡◌, ℕ, ◌-◌, ◌<◌, ◌≤◌, Bool, true, false, List, Option, Some, None, slice_get}
use Rattle.puz_board.specs.Boards.{IsGoal, moved}
use Rattle.puz_board.specs.Cells.{reverse_of}
use Rattle.puz_board.specs.declared.moves.Move.{Move}
use Rattle.puz_board.specs.declared.moves.Move.TheVariants.{Up, Down, Left, Right}
use Rattle.set_sum.specs.Bundles.{ShownBundle, SaysAtLeast}
use Rattle.log_file.specs.Logs.{Lemma, Log}
use Rattle.log_check.specs.Trees.{HasLeaf, Tree, absent, leaf, citation, branch}

-- ---- the moves of a branch

-- whether the two moves are the same
abbrev pub is_same_move : Move → Move → Bool
is_same_move Up Up = true
is_same_move Down Down = true
is_same_move Left Left = true
is_same_move Right Right = true
is_same_move a b = false

-- whether the move takes back the one by which the board was reached, which may be none
abbrev pub takes_back : Option Move → Move → Bool
takes_back None move = false
takes_back (Some arriving) move = is_same_move (reverse_of arriving) move

-- the child at the place of a move: where the move leads to a board and doesn't take back the arriving one, there is a child,
-- of which this holds on that board; otherwise there is none
abbrev pub IsChild : Option (List ℕ) → Bool → Tree → (List ℕ → Type 0) → Type 0
IsChild None back child Holds = child ≡ absent
IsChild (Some b) true child Holds = child ≡ absent
IsChild (Some b) false child Holds = Holds b

-- ---- citations

-- lemma i may cite lemma j for this board and bound: lemma j comes earlier, is of the same board, and its bound is no less
pub record Cites (lemmas : List Lemma) (i j : ℕ) (b : List ℕ) (r : ℕ) : Type 0 where
  pub lemma : Lemma
  pub earlier : j < i
  pub there : slice_get lemmas j ≡ Some lemma
  pub board : lemma.board ≡ b
  pub enough : r ≤ lemma.bound

-- ---- refutations, in lemma i

module _ (v : ShownBundle) (log : Log) (i : ℕ) where
  -- The tree refutes that the board, reached by the arriving move, has a solution of fewer than r moves that doesn't take
  -- that move back. A leaf does where a log of this version may have it, and its set, taken by parity or not, says never or
  -- at least r; a citation where it may be made. A branch does where the board isn't the goal board, r is 1 or more, and each
  -- child refutes the board after its move with one move less.
  abbrev pub Refutes : Tree → List ℕ → Option Move → ℕ → Type 0
  Refutes absent b arriving r = ⊥
  Refutes (leaf by_parity set) b arriving r = HasLeaf log.version by_parity × SaysAtLeast v by_parity set b r
  Refutes (citation j) b arriving r = Cites log.lemmas i j b r
  Refutes (branch up down left right) b arriving r =
      (¬ IsGoal b) × (1 ≤ r) ×
      IsChild (moved b Up) (takes_back arriving Up) up (λ c. Refutes up c (Some Up) (r - 1)) ×
      IsChild (moved b Down) (takes_back arriving Down) down (λ c. Refutes down c (Some Down) (r - 1)) ×
      IsChild (moved b Left) (takes_back arriving Left) left (λ c. Refutes left c (Some Left) (r - 1)) ×
      IsChild (moved b Right) (takes_back arriving Right) right (λ c. Refutes right c (Some Right) (r - 1))
