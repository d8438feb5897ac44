-- The nodes of a tree, as they stand at the front of bytes.
use Rattle.std.specs.Prelude.{◌≡◌, ℕ, ◌+◌, ◌<◌, ◌^◌, List, [], ◌∷◌, ◌++◌, ⊤}
use Rattle.std.specs.Int.{w32, to_be_bytes}
use Rattle.log_check.specs.Trees.{HasLeaf, first_leaf}
use Rattle.log_check.specs.declared.nodes.TreeNode.{TreeNode}
use Rattle.log_check.specs.declared.nodes.TreeNode.TheVariants.{Branch, Leaf, Citation}

-- the bytes of a node: those of its tree, without those of its children
abbrev pub node_bytes : TreeNode → List ℕ
node_bytes Branch = 0 ∷ []
node_bytes (Leaf by_parity set) = (set + first_leaf by_parity) ∷ []
node_bytes (Citation lemma) = 32 ∷ to_be_bytes w32 lemma

-- a leaf is one that a log of this version may have, and names one of so many sets; a citation has a number of four bytes
abbrev pub IsNode : ℕ → ℕ → TreeNode → Type 0
IsNode version sets Branch = ⊤
IsNode version sets (Leaf by_parity set) = HasLeaf version by_parity × (set < sets)
IsNode version sets (Citation lemma) = lemma < 2 ^ 32

-- the bytes begin with this node, and these are behind it
pub record BeginsWith (version sets : ℕ) (node : TreeNode) (behind bytes : List ℕ) : Type 0 where
  pub is_node : IsNode version sets node
  pub are : bytes ≡ node_bytes node ++ behind

-- they begin with none
abbrev pub BeginsWithNone : ℕ → ℕ → List ℕ → Type 0
BeginsWithNone version sets bytes = (node : TreeNode) (behind : List ℕ) → ¬ BeginsWith version sets node behind bytes
