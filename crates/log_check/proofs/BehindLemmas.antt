-- What the bytes behind some boards' trees tell of the bytes.
use Rattle.std.proofs.Common.{◌≡◌, ℕ, ◌-◌, ◌<◌, ◌≤◌, ◌^◌, ◌↔◌, true, false, List, ◌∷◌, length, Option, Some, None, refl, sym, ap, subst}
use Rattle.std.specs.Prelude.{IfNone, IfSome, option_map}
use Rattle.puz_board.specs.Boards.{moved}
use Rattle.puz_board.specs.declared.moves.Move.{Move}
use Rattle.set_sum.specs.Bundles.{ShownBundle}
use Rattle.set_sum.specs.ShownSums.{ShownSums}
use Rattle.log_file.specs.Logs.{Log}
use Rattle.log_check.specs.Nodes.{BeginsWith, BeginsWithNone}
use Rattle.log_check.specs.Refutations.{takes_back}
use Rattle.log_check.specs.Walks.{AreNeverPending, AreWalked, MayHave, with_node}
use Rattle.log_check.specs.declared.nodes.TreeNode.{TreeNode}
use Rattle.log_check.proofs.NodeLemmas.{node_bytes-step, none-pending}
use Rattle.log_check.proofs.Pending.{Pending, Waiting, with_child, with_child_at}

-- ---- where there is a value, or none

-- what holds of the value of an option, where there is one, may be weakened
pub some_as : {X : Type 0} (P Q : X → Type 0) → ((x : X) → P x → Q x) → (o : Option X) → IfSome o P → IfSome o Q
some_as P Q f None h = h
some_as P Q f (Some x) h = f x h

-- what holds where an option has no value may be weakened
pub none_as : {X : Type 0} (P Q : Type 0) → (P → Q) → (o : Option X) → IfNone o P → IfNone o Q
none_as P Q f None h = f h
none_as P Q f (Some x) h = h

-- what holds in any case holds where an option has no value
pub none_so : {X : Type 0} (P : Type 0) → P → (o : Option X) → IfNone o P
none_so P h None = h
none_so P h (Some x) = tt

-- the sums of a board after a move are of the same bundle
pub after_is : (s t : ShownSums) (o : Option (List ℕ)) → Some t ≡ option_map (λ b. record { bundle = s.bundle; board = b }) o → (t.bundle ≡ s.bundle)
    × (o ≡ Some t.board)
after_is s t None e = cc
after_is s t (Some b) e =
    let same : t ≡ record { bundle = s.bundle; board = b } = cc in
    (ap (λ w. w.bundle) same, ap (λ w. Some w.board) (sym same))

-- ---- children

child_back : (w : Waiting) (move : Move) (o : Option (List ℕ)) (ws : List Waiting) → with_child_at w move o true ws ≡ ws
child_back w move None ws = refl
child_back w move (Some b) ws = refl

module _ (w : Waiting) (move : Move) where
  -- a move that takes back the arriving one leads to no child
  pub with_child-back : takes_back w.arriving move ≡ true → (ws : List Waiting) → with_child w move ws ≡ ws
  with_child-back back ws = subst (λ back. with_child_at w move (moved w.board move) back ws ≡ ws) (sym back) (child_back w move (moved w.board move) ws)

  -- nor does one that would leave the board
  pub with_child-off : moved w.board move ≡ None → (ws : List Waiting) → with_child w move ws ≡ ws
  with_child-off off ws = subst (λ o. with_child_at w move o (takes_back w.arriving move) ws ≡ ws) (sym off) refl

  -- each other move leads to one
  pub with_child-there : takes_back w.arriving move ≡ false → (b : List ℕ) → moved w.board move ≡ Some b → (ws : List Waiting)
      → with_child w move ws ≡ record { board = b; arriving = Some move; bound = w.bound - 1 } ∷ ws
  with_child-there on b leads ws =
      subst (λ back. with_child_at w move (moved w.board move) back ws ≡ record { board = b; arriving = Some move; bound = w.bound - 1 } ∷ ws) (sym on)
      (subst (λ o. with_child_at w move o false ws ≡ record { board = b; arriving = Some move; bound = w.bound - 1 } ∷ ws) (sym leads) refl)

module _ (v : ShownBundle) (log : Log) (i : ℕ) where
  -- ---- one after the other

  -- where no boards come first, the bytes behind them are all the bytes
  pub walked_none : (first : List Waiting → List Waiting) (bytes : List ℕ) → ((ws : List Waiting) → first ws ≡ ws) → AreWalked v log i first bytes bytes
  walked_none first bytes none ws = subst (λ all. Pending v log i all bytes ↔ Pending v log i ws bytes) (sym (none ws)) (λ p. p, λ p. p)

  -- the bytes behind some first boards are behind the same boards given in another way
  pub walked_as : (first also : List Waiting → List Waiting) (bytes behind : List ℕ) → ((ws : List Waiting) → first ws ≡ also ws)
      → AreWalked v log i also bytes behind → AreWalked v log i first bytes behind
  walked_as first also bytes behind same walked ws = subst (λ all. Pending v log i all bytes ↔ Pending v log i ws behind) (sym (same ws)) (walked ws)

  -- bytes that some first boards never wait for, the same boards given in another way never wait for
  pub refused_as : (first also : List Waiting → List Waiting) (bytes : List ℕ) → ((ws : List Waiting) → first ws ≡ also ws)
      → AreNeverPending v log i also bytes → AreNeverPending v log i first bytes
  refused_as first also bytes same none ws = subst (λ all. ¬ Pending v log i all bytes) (sym (same ws)) (none ws)

  -- the bytes behind next boards, taken from those behind first ones, are behind both
  pub walked_then : (first next : List Waiting → List Waiting) (bytes between behind : List ℕ)
      → AreWalked v log i first bytes between → AreWalked v log i next between behind → AreWalked v log i (λ ws. first (next ws)) bytes behind
  walked_then first next bytes between behind one two ws = (λ p. (two ws).0 ((one (next ws)).0 p), λ p. (one (next ws)).1 ((two ws).1 p))

  -- bytes that the first boards never wait for are never waited for by these and next ones
  pub refused_first : (first next : List Waiting → List Waiting) (bytes : List ℕ) → AreNeverPending v log i first bytes
      → AreNeverPending v log i (λ ws. first (next ws)) bytes
  refused_first first next bytes none ws = none (next ws)

  -- where next boards never wait for the bytes behind first ones, both together never wait for the whole
  pub refused_then : (first next : List Waiting → List Waiting) (bytes between : List ℕ)
      → AreWalked v log i first bytes between → AreNeverPending v log i next between → AreNeverPending v log i (λ ws. first (next ws)) bytes
  refused_then first next bytes between one none ws p = none ws ((one (next ws)).0 p)

  -- ---- a node

  module _ (few : length v.sets ≤ 16) (fits : i < 2 ^ 32) (w : Waiting) (bytes : List ℕ) where
    -- a board never waits for bytes that begin with no node
    pub refused_none : BeginsWithNone log.version (length v.sets) bytes → AreNeverPending v log i (λ ws. w ∷ ws) bytes
    refused_none none ws = none-pending v few log i fits w ws bytes none

    module _ (node : TreeNode) (between : List ℕ) (begins : BeginsWith log.version (length v.sets) node between bytes) where
      -- a board never waits for bytes that begin with a node it may not have
      pub refused_node : ¬ MayHave v log i w node → AreNeverPending v log i (λ ws. w ∷ ws) bytes
      refused_node none ws p = none ((node_bytes-step v few log i fits w ws bytes node between begins).0 p).0

      -- where a board may have the node in front, the bytes behind its children are behind the board
      pub walked_node : MayHave v log i w node → (behind : List ℕ) → AreWalked v log i (with_node node w) between behind
          → AreWalked v log i (λ ws. w ∷ ws) bytes behind
      walked_node may behind walked ws =
          let step = node_bytes-step v few log i fits w ws bytes node between begins in
          (λ p. (walked ws).0 (step.0 p).1, λ p. step.1 (may, (walked ws).1 p))

      -- where the children behind a node never wait for the bytes behind it, the board never waits for all
      pub refused_children : AreNeverPending v log i (with_node node w) between → AreNeverPending v log i (λ ws. w ∷ ws) bytes
      refused_children none ws p = none ws ((node_bytes-step v few log i fits w ws bytes node between begins).0 p).1
