-- What a node asks of its board.
use Rattle.std.proofs.Common.{◌≡◌, ℕ, zero, suc, ◌-◌, ◌*◌, ◌<◌, ◌≤◌, ◌^◌, ◌↔◌, ◌&&◌, Bool, true, false, List, [], ◌∷◌, ◌++◌, Some, None, ap, ap₂}
use Rattle.std.proofs.Common.{arith, eqb, eqb-true, IsTrue, le-leb, leb, leb-true, length, refl, replicate, slice_get, subst, sym, take, take_at, ◌∙◌}
use lib.Pointwise.{pointwise}
use Rattle.std.specs.Cmp.Lexicographic.{same_text}
use Rattle.std.specs.Prelude.{nat_eq}
use Rattle.puz_board.specs.Boards.{IsBoardOf, IsGoal}
use Rattle.set_sum.specs.Bundles.{ShownBundle, SaysAtLeast}
use Rattle.log_file.specs.Logs.{Lemma, Log}
use Rattle.log_check.specs.GoodLogs.{IsGood}
use Rattle.log_check.specs.Nodes.{BeginsWith, BeginsWithNone, IsNode, node_bytes}
use Rattle.log_check.specs.Refutations.{Cites, Refutes}
use Rattle.log_check.specs.Trees.{Tree, absent, branch, citation, leaf, spelling}
use Rattle.log_check.specs.Walks.{MayHave, Waiting, all_moves, with_children, with_node}
use Rattle.log_check.specs.declared.nodes.TreeNode.{TreeNode}
use Rattle.log_check.specs.declared.nodes.TreeNode.TheVariants.{Branch, Citation, Leaf}
use Rattle.log_check.proofs.DecideLemmas.{AreBoards, children_boards}
use Rattle.log_check.proofs.Pending.{Pending}
use Rattle.log_check.proofs.WalkLemmas.{branch_byte, citation_byte, good_is_pending, leaf_byte, lemma_waiting}

-- ---- citations

-- the numbers of a board, and the zeros behind them
abbrev pub filled : List ℕ → List ℕ
filled b = b ++ replicate (25 - length b) 0

last_of_three : (x y z : Bool) → (x && (y && z)) ≡ true → true ≡ z
last_of_three true true z e = sym e
last_of_three true false z e = cc
last_of_three false y z e = cc

-- boards of one side that are stored alike are the same
pub boards_same : (n : ℕ) (a b : List ℕ) → IsBoardOf n a → IsBoardOf n b → (x y : Bool) → (x && (y && pointwise nat_eq (filled a) (filled b))) ≡ true → a ≡ b
boards_same n a b good_a good_b x y same =
    sym (take_at a (replicate (25 - length a) 0) (n * n) good_a.size) ∙
    ap (take (n * n)) (same_text (filled a) (filled b) (last_of_three x y _ same)) ∙
    take_at b (replicate (25 - length b) 0) (n * n) good_b.size

lemma_there : (lemmas : List Lemma) (i : ℕ) → i < length lemmas → (lemma : Lemma) × (slice_get lemmas i ≡ Some lemma)
lemma_there [] i within = absurd (omega arith)
lemma_there (lemma ∷ more) zero within = (lemma, refl)
lemma_there (lemma ∷ more) (suc i) within = lemma_there more i (omega arith)

-- an earlier lemma of this board may be cited for bounds that are no greater
pub Cites-bound : (lemmas : List Lemma) (i j : ℕ) (b : List ℕ) (r bound : ℕ) → i < length lemmas → j < i
    → ((lemma : Lemma) → slice_get lemmas j ≡ Some lemma → b ≡ lemma.board) → ((lemma : Lemma) → slice_get lemmas j ≡ Some lemma → bound ≡ lemma.bound)
    → IsTrue (leb r bound) ↔ Cites lemmas i j b r
Cites-bound lemmas i j b r bound within earlier board_is bound_is = (
  λ test.
      let at = lemma_there lemmas j (omega arith) in
      record {
        lemma = at.0;
        earlier = earlier;
        there = at.1;
        board = sym (board_is at.0 at.1);
        enough = subst (λ k. r ≤ k) (bound_is at.0 at.1) (leb-true r bound test);
      },
  λ cites. le-leb r bound (subst (λ k. r ≤ k) (sym (bound_is cites.lemma cites.there)) cites.enough),
)

-- ---- the node of the board that waits first

-- the bytes begin with a node, for one version and number of sets as for the same ones
pub BeginsWith-same : {version sets also_version also_sets : ℕ} (node : TreeNode) (behind bytes : List ℕ) → version ≡ also_version → sets ≡ also_sets
    → BeginsWith version sets node behind bytes → BeginsWith also_version also_sets node behind bytes
BeginsWith-same node behind bytes versions counts begins =
    subst (λ A. A) (ap₂ (λ version sets. BeginsWith version sets node behind bytes) versions counts) begins

module _ (v : ShownBundle) (few : length v.sets ≤ 16) (log : Log) (i : ℕ) (fits : i < 2 ^ 32) (w : Waiting) (ws : List Waiting) (bytes : List ℕ) where
  -- it is a node that it may have, and the boards behind wait for the bytes behind
  pub node_bytes-step : (node : TreeNode) (behind : List ℕ) → BeginsWith log.version (length v.sets) node behind bytes
      → Pending v log i (w ∷ ws) bytes ↔ (MayHave v log i w node × Pending v log i (with_node node w ws) behind)
  node_bytes-step node behind begins = go node begins.is_node begins.are
    where
      go : (node : TreeNode) → IsNode log.version (length v.sets) node → bytes ≡ node_bytes node ++ behind
          → Pending v log i (w ∷ ws) bytes ↔ (MayHave v log i w node × Pending v log i (with_node node w ws) behind)
      go Branch is are =
          let step = subst (λ bs. Pending v log i (w ∷ ws) bs ↔ ((¬ IsGoal w.board) × (1 ≤ w.bound) × Pending v log i (with_children w all_moves ws) behind))
          (sym are) (branch_byte v few log i fits w ws behind) in
          (λ p. let q = step.0 p in ((q.0, q.1), q.2), λ p. step.1 (p.0.0, p.0.1, p.1))
      go (Leaf by_parity set) is are =
          subst (λ bs. Pending v log i (w ∷ ws) bs ↔ (SaysAtLeast v by_parity set w.board w.bound × Pending v log i ws behind)) (sym are)
          (leaf_byte v few log i fits w ws by_parity set behind is.0 (let there = is.1 in omega arith))
      go (Citation j) is are =
          subst (λ bs. Pending v log i (w ∷ ws) bs ↔ (Cites log.lemmas i j w.board w.bound × Pending v log i ws behind)) (sym are)
          (citation_byte v few log i fits w ws j behind is)

  -- no board waits for bytes that begin with none
  pub none-pending : BeginsWithNone log.version (length v.sets) bytes → ¬ Pending v log i (w ∷ ws) bytes
  none-pending none p = go p.0 p.1 p.2 p.3
    where
      go : (tree : Tree) (rest : List ℕ) → bytes ≡ spelling tree ++ rest → Refutes v log i tree w.board w.arriving w.bound → ⊥
      go absent rest e refutes = refutes
      go (leaf by_parity set) rest e refutes = none (Leaf by_parity set) rest (record { is_node = (refutes.0, refutes.1.says.there); are = e })
      go (citation j) rest e refutes = none (Citation j) rest (record { is_node = let earlier = refutes.earlier in omega arith; are = e })
      go (branch up down left right) rest e refutes =
          none Branch ((spelling up ++ spelling down ++ spelling left ++ spelling right) ++ rest) (record { is_node = tt; are = e })

-- ---- the walk

-- a node that is no branch leaves the boards behind as they are
pub with_node-other : (node : TreeNode) (w : Waiting) (ws : List Waiting) → ¬ (node ≡ Branch) → with_node node w ws ≡ ws
with_node-other Branch w ws other = absurd (other refl)
with_node-other (Leaf by_parity set) w ws other = refl
with_node-other (Citation lemma) w ws other = refl

-- where all boards that wait are of side n, so are those that wait behind a node
pub AreBoards-node : (n : ℕ) (node : TreeNode) (w : Waiting) (ws : List Waiting) → AreBoards n (w ∷ ws) → AreBoards n (with_node node w ws)
AreBoards-node n Branch w ws boards = children_boards n w boards.0 all_moves ws boards.1
AreBoards-node n (Leaf by_parity set) w ws boards = boards.1
AreBoards-node n (Citation lemma) w ws boards = boards.1

-- a lemma's board waits at first, and no other
pub root-pending : (v : ShownBundle) (log : Log) (i : ℕ) → i < length log.lemmas → (board : List ℕ) (bound : ℕ) (tree : List ℕ) (ws : List Waiting)
    → ((lemma : Lemma) → slice_get log.lemmas i ≡ Some lemma → board ≡ lemma.board)
    → ((lemma : Lemma) → slice_get log.lemmas i ≡ Some lemma → bound ≡ lemma.bound)
    → ((lemma : Lemma) → slice_get log.lemmas i ≡ Some lemma → tree ≡ lemma.tree) → ws ≡ []
    → IsGood v log i ↔ Pending v log i (record { board = board; arriving = None; bound = bound } ∷ ws) tree
root-pending v log i within board bound tree ws board_is bound_is tree_is none =
    let at = lemma_there log.lemmas i within in
    let waiting : record { board = board; arriving = None; bound = bound } ∷ ws ≡ lemma_waiting at.0 ∷ [] =
    λ t. record { board = board_is at.0 at.1 t; arriving = None; bound = bound_is at.0 at.1 t } ∷ none t in
    subst (λ bytes. IsGood v log i ↔ Pending v log i (record { board = board; arriving = None; bound = bound } ∷ ws) bytes) (sym (tree_is at.0 at.1))
    (subst (λ all. IsGood v log i ↔ Pending v log i all at.0.tree) (sym waiting) (
      λ good.
          let p = (good_is_pending v log i).0 good in
          let same : p.0 ≡ at.0 = (let there = p.1 in let also = at.1 in cc) in
          subst (λ lemma. Pending v log i (lemma_waiting lemma ∷ []) lemma.tree) same p.2,
      λ pending. (good_is_pending v log i).1 (at.0, at.1, pending),
    ))

-- where the boards wait for the bytes whenever something holds, those behind the node wait for the bytes behind
pub walked : (v : ShownBundle) → length v.sets ≤ 16 → (log : Log) (i : ℕ) → i < 2 ^ 32 → (w : Waiting) (ws : List Waiting) (bytes : List ℕ)
    → IsGood v log i ↔ Pending v log i (w ∷ ws) bytes → (node : TreeNode) (behind : List ℕ) → BeginsWith log.version (length v.sets) node behind bytes
    → MayHave v log i w node → (now : List Waiting) → now ≡ with_node node w ws → IsGood v log i ↔ Pending v log i now behind
walked v few log i fits w ws bytes good node behind begins may now is =
    let step = node_bytes-step v few log i fits w ws bytes node behind begins in
    subst (λ all. IsGood v log i ↔ Pending v log i all behind) (sym is)
    (λ g. (step.0 (good.0 g)).1, λ p. good.1 (step.1 (may, p)))

-- no bytes are left over
pub none_left : (G : Type 0) (r : Bool) (bytes : List ℕ) → r ≡ eqb (length bytes) 0 → G ↔ (bytes ≡ []) → IsTrue r ↔ G
none_left G r [] is good = (λ _. good.1 refl, λ _. is)
none_left G r (byte ∷ bytes) is good = (
  λ test. absurd (let some : length (byte ∷ bytes) ≡ 0 = eqb-true _ 0 (sym is ∙ test) in
      omega arith),
  λ g. absurd (cc (good.0 g)),
)

-- what is refused isn't so
pub refused : (G : Type 0) → ¬ G → IsTrue false ↔ G
refused G none = (λ bad. cc, λ good. absurd (none good))
