-- What the first byte tells of the boards that wait: one lemma for each kind of node.
use Rattle.std.proofs.Common.{◌≡◌, ◌≢◌, ℕ, ◌+◌, ◌-◌, ◌<◌, ◌≤◌, ◌^◌, ◌⊎◌, ◌↔◌, Bool, true, false, List, [], ◌∷◌, ◌++◌, length, drop, take, Option}
use Rattle.std.proofs.Common.{Some, None, inl, inr, refl, sym, ◌∙◌, ap, subst, arith, append_assoc, drop_at, slice_get, take_at}
use Rattle.std.specs.Int.{from_be_bytes, to_be_bytes, w32}
use Rattle.std.proofs.lemmas.Nat.{from_be_bytes-to_be_bytes_4}
use Rattle.puz_board.specs.Boards.{IsGoal, moved}
use Rattle.puz_board.specs.declared.moves.Move.{Move}
use Rattle.puz_board.specs.declared.moves.Move.TheVariants.{Up, Down, Left, Right}
use Rattle.set_sum.specs.Bundles.{ShownBundle, SaysAtLeast}
use Rattle.set_sum.proofs.NumeralLemmas.{head_is, tail_is}
use Rattle.log_file.specs.Logs.{Lemma, Log}
use Rattle.log_check.specs.GoodLogs.{IsGood}
use Rattle.log_check.specs.Refutations.{Cites, IsChild, Refutes, takes_back}
use Rattle.log_check.specs.Trees.{HasLeaf, Tree, absent, branch, citation, first_leaf, leaf, spelling}
use Rattle.log_check.proofs.Pending.{Pending, Waiting, all_moves, with_child, with_child_at, with_children}

-- ---- bytes

-- the number of a citation, and the bytes behind it, are the bytes' own
pub same_number : (j k : ℕ) → j < 2 ^ 32 → k < 2 ^ 32 → (xs ys : List ℕ) → to_be_bytes w32 j ++ xs ≡ to_be_bytes w32 k ++ ys → (j ≡ k) × (xs ≡ ys)
same_number j k j_fits k_fits xs ys e =
    let front : to_be_bytes w32 j ≡ to_be_bytes w32 k =
    sym (take_at (to_be_bytes w32 j) xs 4 refl) ∙ ap (take 4) e ∙ take_at (to_be_bytes w32 k) ys 4 refl in
    let back : xs ≡ ys = sym (drop_at (to_be_bytes w32 j) xs 4 refl) ∙ ap (drop 4) e ∙ drop_at (to_be_bytes w32 k) ys 4 refl in
    (sym (from_be_bytes-to_be_bytes_4 j j_fits) ∙ ap (from_be_bytes w32) front ∙ from_be_bytes-to_be_bytes_4 k k_fits, back)

-- the bytes begin with a number of four bytes, the highest first
pub record BeginsWithNumber (bytes : List ℕ) : Type 0 where
  pub number : ℕ
  pub rest : List ℕ
  pub fits : number < 2 ^ 32
  pub is : bytes ≡ to_be_bytes w32 number ++ rest

-- the byte of a leaf that a log of the version may have, of one of 16 sets
pub record IsLeaf (version byte : ℕ) : Type 0 where
  pub by_parity : Bool
  pub set : ℕ
  pub has : HasLeaf version by_parity
  pub small : set < 16
  pub is : byte ≡ set + first_leaf by_parity

-- its byte isn't that of a branch or a citation, and is that of no other leaf
not_branch : (by_parity : Bool) (set : ℕ) → ¬ (0 ≡ set + first_leaf by_parity)
not_branch true set is = omega arith
not_branch false set is = omega arith

not_citation : (by_parity : Bool) (set : ℕ) → set < 16 → ¬ (32 ≡ set + first_leaf by_parity)
not_citation true set small is = omega arith
not_citation false set small is = omega arith

leaf_not_citation : (version : ℕ) → ¬ IsLeaf version 32
leaf_not_citation version is = not_citation is.by_parity is.set is.small is.is

leaf_once : (p q : Bool) (s t : ℕ) → s < 16 → t < 16 → s + first_leaf p ≡ t + first_leaf q → (p ≡ q) × (s ≡ t)
leaf_once true true s t small also same = (refl, omega arith)
leaf_once true false s t small also same = absurd (omega arith)
leaf_once false true s t small also same = absurd (omega arith)
leaf_once false false s t small also same = (refl, omega arith)

-- the bytes begin with a branch's, a leaf's, or a citation's and its number
abbrev pub BeginsWithNode : ℕ → List ℕ → Type 0
BeginsWithNode version bytes =
    (rest : List ℕ) × ((bytes ≡ 0 ∷ rest) ⊎
    ((byte : ℕ) × IsLeaf version byte × (bytes ≡ byte ∷ rest)) ⊎
    ((j : ℕ) × (j < 2 ^ 32) × (bytes ≡ 32 ∷ to_be_bytes w32 j ++ rest)))

-- ---- the children of a branch

module _ (v : ShownBundle) (log : Log) (i : ℕ) where
  -- the tree refutes the child's board
  abbrev Holds : Waiting → Move → Tree → List ℕ → Type 0
  Holds w move tree b = Refutes v log i tree b (Some move) (w.bound - 1)

  push : (w : Waiting) (move : Move) (b : Option (List ℕ)) (back : Bool) (tree : Tree) (ws : List Waiting) (rest : List ℕ)
      → IsChild b back tree (Holds w move tree) → Pending v log i ws rest
      → Pending v log i (with_child_at w move b back ws) (spelling tree ++ rest)
  push w move None back tree ws rest child more = subst (λ t. Pending v log i ws (spelling t ++ rest)) (sym child) more
  push w move (Some b) true tree ws rest child more = subst (λ t. Pending v log i ws (spelling t ++ rest)) (sym child) more
  push w move (Some b) false tree ws rest child more = (tree, rest, refl, child, more)

  pop : (w : Waiting) (move : Move) (b : Option (List ℕ)) (back : Bool) (ws : List Waiting) (bytes : List ℕ)
      → Pending v log i (with_child_at w move b back ws) bytes
      → (tree : Tree) × (rest : List ℕ) × (bytes ≡ spelling tree ++ rest) × IsChild b back tree (Holds w move tree) × Pending v log i ws rest
  pop w move None back ws bytes more = (absent, bytes, refl, refl, more)
  pop w move (Some b) true ws bytes more = (absent, bytes, refl, refl, more)
  pop w move (Some b) false ws bytes more = more

  push_child : (w : Waiting) (move : Move) (tree : Tree) (ws : List Waiting) (rest : List ℕ)
      → IsChild (moved w.board move) (takes_back w.arriving move) tree (Holds w move tree) → Pending v log i ws rest
      → Pending v log i (with_child w move ws) (spelling tree ++ rest)
  push_child w move = push w move (moved w.board move) (takes_back w.arriving move)

  pop_child : (w : Waiting) (move : Move) (ws : List Waiting) (bytes : List ℕ) → Pending v log i (with_child w move ws) bytes
      → (tree : Tree) × (rest : List ℕ) × (bytes ≡ spelling tree ++ rest)
      × IsChild (moved w.board move) (takes_back w.arriving move) tree (Holds w move tree) × Pending v log i ws rest
  pop_child w move = pop w move (moved w.board move) (takes_back w.arriving move)

-- the bytes of the four children, each behind the one before
regrouped : (up down left right : Tree) (rest : List ℕ)
    → (spelling up ++ spelling down ++ spelling left ++ spelling right) ++ rest ≡ spelling up ++ (spelling down ++ (spelling left ++ (spelling right ++ rest)))
regrouped up down left right rest = simp append_assoc

branch_spelt : (up down left right : Tree) (bytes behind_up behind_down behind_left rest : List ℕ)
    → bytes ≡ spelling up ++ behind_up → behind_up ≡ spelling down ++ behind_down → behind_down ≡ spelling left ++ behind_left
    → behind_left ≡ spelling right ++ rest → 0 ∷ bytes ≡ spelling (branch up down left right) ++ rest
branch_spelt up down left right bytes behind_up behind_down behind_left rest p q r s = let all = regrouped up down left right rest in cc

-- ---- one lemma for each kind of node

module _ (v : ShownBundle) (few : length v.sets ≤ 16) (log : Log) (i : ℕ) (fits : i < 2 ^ 32) (w : Waiting) (ws : List Waiting) where
  -- where a board waits, a node comes first
  pub begins_with_node : (bytes : List ℕ) → Pending v log i (w ∷ ws) bytes → BeginsWithNode log.version bytes
  begins_with_node bytes p = split p.0 p.1 p.2 p.3
    where
      split : (tree : Tree) (rest : List ℕ) → bytes ≡ spelling tree ++ rest → Refutes v log i tree w.board w.arriving w.bound → BeginsWithNode log.version bytes
      split absent rest e refutes = absurd refutes
      split (leaf by_parity set) rest e refutes =
          let is_leaf : IsLeaf log.version (set + first_leaf by_parity) =
          record { by_parity = by_parity; set = set; has = refutes.0; small = let there = refutes.1.says.there in omega arith; is = refl } in
          (rest, inr (inl (set + first_leaf by_parity, is_leaf, e)))
      split (citation j) rest e refutes = (rest, inr (inr (j, let earlier = refutes.earlier in omega arith, e)))
      split (branch up down left right) rest e refutes = ((spelling up ++ spelling down ++ spelling left ++ spelling right) ++ rest, inl e)

  -- a board never waits for bytes that are empty
  pub empty_bytes : ¬ Pending v log i (w ∷ ws) []
  empty_bytes p = none (begins_with_node [] p)
    where
      none : BeginsWithNode log.version [] → ⊥
      none (rest, inl e) = cc
      none (rest, inr (inl (byte, is, e))) = cc
      none (rest, inr (inr (j, small, e))) = cc

  -- a board never waits for bytes whose first is that of no branch, leaf or citation
  pub other_byte : (byte : ℕ) (bytes : List ℕ) → byte ≢ 0 → (¬ IsLeaf log.version byte) → byte ≢ 32 → ¬ Pending v log i (w ∷ ws) (byte ∷ bytes)
  other_byte byte bytes some no_leaf other p = none (begins_with_node (byte ∷ bytes) p)
    where
      none : BeginsWithNode log.version (byte ∷ bytes) → ⊥
      none (rest, inl e) = some (head_is byte 0 bytes rest e)
      none (rest, inr (inl (leaf_byte, is, e))) = no_leaf (subst (IsLeaf log.version) (sym (head_is byte leaf_byte bytes rest e)) is)
      none (rest, inr (inr (j, small, e))) = other (head_is byte 32 bytes _ e)

  -- behind a citation's byte is a number
  pub citation_number : (bytes : List ℕ) → Pending v log i (w ∷ ws) (32 ∷ bytes) → BeginsWithNumber bytes
  citation_number bytes p = go (begins_with_node (32 ∷ bytes) p)
    where
      go : BeginsWithNode log.version (32 ∷ bytes) → BeginsWithNumber bytes
      go (rest, inl e) = cc
      go (rest, inr (inl (byte, is, e))) = absurd (leaf_not_citation log.version (subst (IsLeaf log.version) (sym (head_is 32 byte bytes rest e)) is))
      go (rest, inr (inr (j, small, e))) = record { number = j; rest = rest; fits = small; is = tail_is 32 32 bytes _ e }

  -- a branch's byte
  pub branch_byte : (bytes : List ℕ) → Pending v log i (w ∷ ws) (0 ∷ bytes)
      ↔ ((¬ IsGoal w.board) × (1 ≤ w.bound) × Pending v log i (with_children w all_moves ws) bytes)
  branch_byte bytes = (λ p. split p.0 p.1 p.2 p.3 p.4, joined)
    where
      split : (tree : Tree) (rest : List ℕ) → 0 ∷ bytes ≡ spelling tree ++ rest → Refutes v log i tree w.board w.arriving w.bound → Pending v log i ws rest
          → (¬ IsGoal w.board) × (1 ≤ w.bound) × Pending v log i (with_children w all_moves ws) bytes
      split absent rest e refutes more = absurd refutes
      split (leaf by_parity set) rest e refutes more = absurd (not_branch by_parity set (head_is 0 (set + first_leaf by_parity) bytes rest e))
      split (citation j) rest e refutes more = cc
      split (branch up down left right) rest e refutes more =
          let same : bytes ≡ (spelling up ++ spelling down ++ spelling left ++ spelling right) ++ rest = tail_is 0 0 bytes _ e in
          let pending : Pending v log i (with_children w all_moves ws) (spelling up ++ (spelling down ++ (spelling left ++ (spelling right ++ rest)))) =
          push_child v log i w Up up _ _ refutes.2
          (push_child v log i w Down down _ _ refutes.3
          (push_child v log i w Left left _ _ refutes.4
          (push_child v log i w Right right ws rest refutes.5 more))) in
          (refutes.0, refutes.1, subst (Pending v log i (with_children w all_moves ws)) (sym (same ∙ regrouped up down left right rest)) pending)

      joined : (¬ IsGoal w.board) × (1 ≤ w.bound) × Pending v log i (with_children w all_moves ws) bytes → Pending v log i (w ∷ ws) (0 ∷ bytes)
      joined q =
          let up = pop_child v log i w Up _ bytes q.2 in
          let down = pop_child v log i w Down _ up.1 up.4 in
          let left = pop_child v log i w Left _ down.1 down.4 in
          let right = pop_child v log i w Right ws left.1 left.4 in (
            branch up.0 down.0 left.0 right.0,
            right.1,
            branch_spelt up.0 down.0 left.0 right.0 bytes up.1 down.1 left.1 right.1 up.2 down.2 left.2
                right.2,
            (q.0, q.1, up.3, down.3, left.3, right.3),
            right.4,
          )

  -- a leaf's byte
  pub leaf_byte : (by_parity : Bool) (set : ℕ) (bytes : List ℕ) → HasLeaf log.version by_parity → set < 16
      → Pending v log i (w ∷ ws) ((set + first_leaf by_parity) ∷ bytes) ↔ (SaysAtLeast v by_parity set w.board w.bound × Pending v log i ws bytes)
  leaf_byte by_parity set bytes has small = (λ p. split p.0 p.1 p.2 p.3 p.4, λ q. (leaf by_parity set, bytes, refl, (has, q.0), q.1))
    where
      split : (tree : Tree) (rest : List ℕ) → (set + first_leaf by_parity) ∷ bytes ≡ spelling tree ++ rest
          → Refutes v log i tree w.board w.arriving w.bound → Pending v log i ws rest
          → SaysAtLeast v by_parity set w.board w.bound × Pending v log i ws bytes
      split absent rest e refutes more = absurd refutes
      split (leaf other_parity other) rest e refutes more =
          let byte : ℕ = set + first_leaf by_parity in
          let other_byte : ℕ = other + first_leaf other_parity in
          let same = leaf_once other_parity by_parity other set (let there = refutes.1.says.there in
          omega arith) small (sym (head_is byte other_byte bytes rest e)) in (
            subst (λ p. SaysAtLeast v p set w.board w.bound) same.0 (subst (λ s. SaysAtLeast v other_parity s w.board w.bound) same.1 refutes.1),
            subst (Pending v log i ws) (sym (tail_is byte other_byte bytes rest e)) more,
          )
      split (citation j) rest e refutes more = absurd (not_citation by_parity set small (sym (head_is (set + first_leaf by_parity) 32 bytes _ e)))
      split (branch up down left right) rest e refutes more = absurd (not_branch by_parity set (sym (head_is (set + first_leaf by_parity) 0 bytes _ e)))

  -- a citation's byte and number
  pub citation_byte : (j : ℕ) (bytes : List ℕ) → j < 2 ^ 32
      → Pending v log i (w ∷ ws) (32 ∷ (to_be_bytes w32 j ++ bytes)) ↔ (Cites log.lemmas i j w.board w.bound × Pending v log i ws bytes)
  citation_byte j bytes j_fits = (λ p. split p.0 p.1 p.2 p.3 p.4, λ q. (citation j, bytes, refl, q.0, q.1))
    where
      split : (tree : Tree) (rest : List ℕ) → 32 ∷ (to_be_bytes w32 j ++ bytes) ≡ spelling tree ++ rest
          → Refutes v log i tree w.board w.arriving w.bound → Pending v log i ws rest
          → Cites log.lemmas i j w.board w.bound × Pending v log i ws bytes
      split absent rest e refutes more = absurd refutes
      split (leaf by_parity set) rest e refutes more = absurd
          (not_citation by_parity set (let there = refutes.1.says.there in omega arith) (head_is 32 (set + first_leaf by_parity) _ rest e))
      split (citation k) rest e refutes more =
          let k_fits : k < 2 ^ 32 = (let earlier = refutes.earlier in omega arith) in
          let same = same_number j k j_fits k_fits bytes rest (tail_is 32 32 (to_be_bytes w32 j ++ bytes) (to_be_bytes w32 k ++ rest) e) in
          (subst (λ x. Cites log.lemmas i x w.board w.bound) (sym same.0) refutes, subst (Pending v log i ws) (sym same.1) more)
      split (branch up down left right) rest e refutes more = cc

-- ---- lemmas

-- the board of a lemma, which no move led to
abbrev pub lemma_waiting : Lemma → Waiting
lemma_waiting lemma = record { board = lemma.board; arriving = None; bound = lemma.bound }

append_nil : (xs : List ℕ) → xs ++ [] ≡ xs
append_nil [] = refl
append_nil (x ∷ xs) = ap (λ ys. x ∷ ys) (append_nil xs)

-- a lemma is good where its board alone waits for its bytes
pub good_is_pending : (v : ShownBundle) (log : Log) (i : ℕ)
    → IsGood v log i ↔ ((lemma : Lemma) × (slice_get log.lemmas i ≡ Some lemma) × Pending v log i (lemma_waiting lemma ∷ []) lemma.tree)
good_is_pending v log i = (
  λ good. (good.lemma, good.there, (good.tree, [], good.spelt ∙ sym (append_nil (spelling good.tree)), good.refutes, refl)),
  λ p. record {
    lemma = p.0;
    there = p.1;
    tree = p.2.0;
    spelt = p.2.2 ∙ ap (λ rest. spelling p.2.0 ++ rest) p.2.4 ∙ append_nil (spelling p.2.0);
    refutes = p.2.3;
  },
)
