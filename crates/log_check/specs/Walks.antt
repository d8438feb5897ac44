-- Which boards of a tree wait for their nodes, in the order of its bytes.
use Rattle.std.specs.Prelude.{◌≡◌, ◌↔◌, ℕ, ◌-◌, ◌≤◌, List, [], ◌∷◌, ◌++◌, Bool, true, false, Option, Some, None}
use Rattle.puz_board.specs.Boards.{IsGoal, moved}
use Rattle.puz_board.specs.declared.moves.Move.{Move}
use Rattle.puz_board.specs.declared.moves.Move.TheVariants.{Up, Down, Left, Right}
use Rattle.set_sum.specs.Bundles.{ShownBundle, SaysAtLeast}
use Rattle.log_file.specs.Logs.{Log}
use Rattle.log_check.specs.Refutations.{Cites, Refutes, takes_back}
use Rattle.log_check.specs.Trees.{Tree, spelling}
use Rattle.log_check.specs.declared.nodes.TreeNode.{TreeNode}
use Rattle.log_check.specs.declared.nodes.TreeNode.TheVariants.{Branch, Leaf, Citation}

-- A board that waits for its node: the move by which it was reached, which may be none, and its bound, below which its tree is
-- to refute solutions.
pub record Waiting : Type 0 where
  pub board : List ℕ
  pub arriving : Option Move
  pub bound : ℕ

-- ---- the children of a branch

-- before the others the board to which a move leads, where there is one and the move doesn't take back the arriving one
abbrev pub with_child_at : Waiting → Move → Option (List ℕ) → Bool → List Waiting → List Waiting
with_child_at w move None back ws = ws
with_child_at w move (Some b) true ws = ws
with_child_at w move (Some b) false ws = record { board = b; arriving = Some move; bound = w.bound - 1 } ∷ ws

-- the child of a move, where there is one, before the others
abbrev pub with_child : Waiting → Move → List Waiting → List Waiting
with_child w move ws = with_child_at w move (moved w.board move) (takes_back w.arriving move) ws

-- the children of these moves before the others
abbrev pub with_children : Waiting → List Move → List Waiting → List Waiting
with_children w [] ws = ws
with_children w (move ∷ moves) ws = with_child w move (with_children w moves ws)

-- all moves, in the order of a branch's children
abbrev pub all_moves : List Move
all_moves = Up ∷ Down ∷ Left ∷ Right ∷ []

-- ---- the node of the board that waits first

-- the boards that wait behind the node
abbrev pub with_node : TreeNode → Waiting → List Waiting → List Waiting
with_node Branch w ws = with_children w all_moves ws
with_node (Leaf by_parity set) w ws = ws
with_node (Citation lemma) w ws = ws

-- in lemma i the board may have this node
abbrev pub MayHave : ShownBundle → Log → ℕ → Waiting → TreeNode → Type 0
MayHave v log i w Branch = (¬ IsGoal w.board) × (1 ≤ w.bound)
MayHave v log i w (Leaf by_parity set) = SaysAtLeast v by_parity set w.board w.bound
MayHave v log i w (Citation lemma) = Cites log.lemmas i lemma w.board w.bound

-- ---- the bytes

module _ (v : ShownBundle) (log : Log) (i : ℕ) where
  -- they spell trees that refute these boards, one after the other, and nothing more
  abbrev pub Pending : List Waiting → List ℕ → Type 0
  Pending [] bytes = bytes ≡ []
  Pending (w ∷ ws) bytes =
      (tree : Tree) × (rest : List ℕ) × (bytes ≡ spelling tree ++ rest) × Refutes v log i tree w.board w.arriving w.bound × Pending ws rest

  -- whatever boards wait behind some first ones, they wait for the bytes behind where all of them wait for the bytes
  abbrev pub AreWalked : (List Waiting → List Waiting) → List ℕ → List ℕ → Type 0
  AreWalked first bytes behind = (ws : List Waiting) → Pending (first ws) bytes ↔ Pending ws behind

  -- whatever boards wait behind the first ones, all of them wait for other bytes
  abbrev pub AreNeverPending : (List Waiting → List Waiting) → List ℕ → Type 0
  AreNeverPending first bytes = (ws : List Waiting) → ¬ Pending (first ws) bytes
