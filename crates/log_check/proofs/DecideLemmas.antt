-- Whether bytes spell trees that refute the boards that wait is settled, and so whether a lemma is good.
use Rattle.std.proofs.Common.{◌≡◌, ℕ, zero, suc, ◌+◌, ◌-◌, ◌<◌, ◌≤◌, ◌^◌, ◌↔◌, Bool, true, false, List, [], ◌∷◌, ◌++◌, length, drop, take, Option}
use Rattle.std.proofs.Common.{Some, None, inl, inr, refl, sym, ◌∙◌, ap, subst, arith, drop_at, length-append, slice_get, take_at}
use Rattle.std.specs.Int.{from_be_bytes, to_be_bytes, w32}
use Rattle.std.specs.List.{AllByRecursion}
use Rattle.std.proofs.lemmas.Bool.{both_ways, cases_Bool, cases_eq, cases_lt}
use Rattle.std.proofs.lemmas.Nat.{from_be_bytes-to_be_bytes_4}
use Rattle.std.proofs.lemmas.Option.{slice_get_within}
use Rattle.puz_board.specs.Boards.{IsBoardOf, IsGoal, is_goal, moved}
use Rattle.puz_board.specs.declared.moves.Move.{Move}
use Rattle.puz_board.proofs.BoardLemmas.{goal-is_goal, is_goal-goal}
use Rattle.puz_board.proofs.MovedLemmas.{IsBoardOf-moved}
use Rattle.pat_place.proofs.JoinLemmas.{Decided, both}
use Rattle.tab_rule.proofs.ValueLemmas.{same_list_decided}
use Rattle.set_sum.specs.Bundles.{ShownBundle, IsBundle}
use Rattle.set_sum.proofs.SayLemmas.{at_least_decided}
use Rattle.log_file.specs.Logs.{IsLog, Lemma, Log}
use Rattle.log_check.specs.GoodLogs.{IsGood}
use Rattle.log_check.specs.Refutations.{Cites, takes_back}
use Rattle.log_check.specs.Trees.{HasLeaf, first_leaf}
use Rattle.log_check.proofs.GoodLemmas.{board_of}
use Rattle.log_check.proofs.Pending.{Pending, Waiting, all_moves, with_child_at, with_children}
use Rattle.log_check.proofs.WalkLemmas.{BeginsWithNumber, IsLeaf, branch_byte, citation_byte, citation_number, empty_bytes, good_is_pending}
use Rattle.log_check.proofs.WalkLemmas.{leaf_byte, lemma_waiting, other_byte}

-- of two facts that imply each other, one is settled where the other is
equally_decided : {A B : Type 0} → A ↔ B → Decided B → Decided A
equally_decided ways b = elim b [ inl y ↦ inl (ways.1 y) | inr n ↦ inr (λ x. n (ways.0 x)) ]

goal_decided : (b : List ℕ) → Decided (IsGoal b)
goal_decided b = elim (cases_Bool (is_goal b)) [
  | inl passed ↦ inl (goal-is_goal b passed)
  | inr failed ↦ inr (λ goal. both_ways (is_goal b) failed (is_goal-goal b goal))
]

-- ---- numbers of citations

-- the number is that of the first four bytes, and the rest is what is behind them
number_read : (bytes : List ℕ) → BeginsWithNumber bytes → (from_be_bytes w32 (take 4 bytes) < 2 ^ 32)
    × (to_be_bytes w32 (from_be_bytes w32 (take 4 bytes)) ++ drop 4 bytes ≡ bytes)
number_read bytes begins =
    let front : take 4 bytes ≡ to_be_bytes w32 begins.number = ap (take 4) begins.is ∙ take_at (to_be_bytes w32 begins.number) begins.rest 4 refl in
    let back : drop 4 bytes ≡ begins.rest = ap (drop 4) begins.is ∙ drop_at (to_be_bytes w32 begins.number) begins.rest 4 refl in
    let number : from_be_bytes w32 (take 4 bytes) ≡ begins.number = ap (from_be_bytes w32) front ∙ from_be_bytes-to_be_bytes_4 begins.number begins.fits in
    (let fits = begins.fits in omega arith, cc (begins.is))

begins_decided : (bytes : List ℕ) → Decided (BeginsWithNumber bytes)
begins_decided bytes = elim (cases_lt (from_be_bytes w32 (take 4 bytes)) (2 ^ 32)) [
  | inr large ↦ inr (λ begins. let fits = (number_read bytes begins).0 in omega arith)
  | inl fits ↦ elim (same_list_decided (to_be_bytes w32 (from_be_bytes w32 (take 4 bytes)) ++ drop 4 bytes) bytes) [
    | inl same ↦ inl (record { number = from_be_bytes w32 (take 4 bytes); rest = drop 4 bytes; fits = fits; is = sym same })
    | inr other ↦ inr (λ begins. other (number_read bytes begins).1)
  ]
]

-- ---- bytes of leaves

within_decided : (low byte : ℕ) → Decided ((set : ℕ) × (set < 16) × (byte ≡ set + low))
within_decided low byte = elim (cases_lt byte low) [
  | inl below ↦ inr (λ h. let e : byte ≡ h.0 + low = h.2 in omega arith)
  | inr above ↦ elim (cases_lt byte (low + 16)) [
    | inl within ↦ inl (byte - low, omega arith, omega arith)
    | inr beyond ↦ inr (λ h. let e : byte ≡ h.0 + low = h.2 in let small : h.0 < 16 = h.1 in omega arith)
  ]
]

is_leaf_decided : (version byte : ℕ) → Decided (IsLeaf version byte)
is_leaf_decided version byte = elim (within_decided 1 byte) [
  | inl plain ↦ inl (record { by_parity = false; set = plain.0; has = tt; small = plain.1; is = plain.2 })
  | inr not_plain ↦ elim (cases_eq version 2) [
    | inr older ↦ inr (λ leaf. go leaf.by_parity leaf.set leaf.has leaf.small leaf.is not_plain (λ is. absurd (older is)))
    | inl second ↦ elim (within_decided 65 byte) [
      | inl raised ↦ inl (record { by_parity = true; set = raised.0; has = second; small = raised.1; is = raised.2 })
      | inr not_raised ↦ inr (λ leaf. go leaf.by_parity leaf.set leaf.has leaf.small leaf.is not_plain (λ _. not_raised))
    ]
  ]
]
  where
    go : (by_parity : Bool) (set : ℕ) → HasLeaf version by_parity → set < 16 → byte ≡ set + first_leaf by_parity
        → (¬ ((s : ℕ) × (s < 16) × (byte ≡ s + 1))) → (version ≡ 2 → ¬ ((s : ℕ) × (s < 16) × (byte ≡ s + 65))) → ⊥
    go true set has small is plain raised = raised has (set, small, is)
    go false set has small is plain raised = plain (set, small, is)

-- ---- boards that wait

-- each board that waits is one of side n
abbrev pub AreBoards : ℕ → List Waiting → Type 0
AreBoards n ws = AllByRecursion (λ w. IsBoardOf n w.board) ws

child_boards : (n : ℕ) (w : Waiting) (move : Move) (b : Option (List ℕ)) (back : Bool) (ws : List Waiting)
    → ((c : List ℕ) → b ≡ Some c → IsBoardOf n c) → AreBoards n ws → AreBoards n (with_child_at w move b back ws)
child_boards n w move None back ws is more = more
child_boards n w move (Some b) true ws is more = more
child_boards n w move (Some b) false ws is more = (is b refl, more)

-- the boards after moves of a board of side n, before others of side n, are boards of side n
pub children_boards : (n : ℕ) (w : Waiting) → IsBoardOf n w.board → (moves : List Move) (ws : List Waiting) → AreBoards n ws
    → AreBoards n (with_children w moves ws)
children_boards n w good [] ws more = more
children_boards n w good (move ∷ moves) ws more =
    child_boards n w move (moved w.board move) (takes_back w.arriving move) (with_children w moves ws) (IsBoardOf-moved n w.board good move)
    (children_boards n w good moves ws more)

-- ---- whether they are refuted

module _ (v : ShownBundle) (is : IsBundle v) (log : Log) (i : ℕ) (fits : i < 2 ^ 32) where
  cites_decided : (j : ℕ) (b : List ℕ) (r : ℕ) → Decided (Cites log.lemmas i j b r)
  cites_decided j b r = elim (cases_lt j i) [
    | inr late ↦ inr (λ cites. let earlier = cites.earlier in omega arith)
    | inl earlier ↦ go earlier (slice_get log.lemmas j) refl
  ]
    where
      go : j < i → (o : Option Lemma) → slice_get log.lemmas j ≡ o → Decided (Cites log.lemmas i j b r)
      go earlier None there = inr (λ cites. cc (cites.there, there))
      go earlier (Some lemma) there = elim (same_list_decided lemma.board b) [
        | inr other ↦ inr (λ cites. let same : cites.lemma ≡ lemma = cc (cites.there, there) in other (subst (λ l. l.board ≡ b) same cites.board))
        | inl board ↦ elim (cases_lt lemma.bound r) [
          | inl less ↦ inr (λ cites.
              let same : cites.lemma ≡ lemma = cc (cites.there, there) in
              let enough : r ≤ lemma.bound = subst (λ l. r ≤ l.bound) same cites.enough in
              omega arith)
          | inr enough ↦ inl (record { lemma = lemma; earlier = earlier; there = there; board = board; enough = enough })
        ]
      ]

  -- it is settled for any boards of this side and any bytes that are no longer than these
  abbrev Settled : List ℕ → Type 0
  Settled bytes = (ws : List Waiting) (rest : List ℕ) → length rest ≤ length bytes → AreBoards v.side ws → Decided (Pending v log i ws rest)

  module _ (w : Waiting) (good : IsBoardOf v.side w.board) (ws : List Waiting) (boards : AreBoards v.side ws) (bytes : List ℕ) (settled : Settled bytes) where
    branch_decided : Decided (Pending v log i (w ∷ ws) (0 ∷ bytes))
    branch_decided = equally_decided (branch_byte v is.few_sets log i fits w ws bytes) (
        elim (goal_decided w.board) [
          | inl goal ↦ inr (λ p. p.0 goal)
          | inr far ↦ elim (cases_lt w.bound 1) [
            | inl zero_bound ↦ inr (λ p. let some : 1 ≤ w.bound = p.1 in omega arith)
            | inr some ↦ elim (settled (with_children w all_moves ws) bytes (omega arith) (children_boards v.side w good all_moves ws boards)) [
              | inl more ↦ inl (far, some, more)
              | inr none ↦ inr (λ p. none p.2)
            ]
          ]
        ])

    leaf_decided : (byte : ℕ) → IsLeaf log.version byte → Decided (Pending v log i (w ∷ ws) (byte ∷ bytes))
    leaf_decided byte leaf = subst (λ b. Decided (Pending v log i (w ∷ ws) (b ∷ bytes))) (sym leaf.is) (
        equally_decided (leaf_byte v is.few_sets log i fits w ws leaf.by_parity leaf.set bytes leaf.has leaf.small)
        (both (at_least_decided v is leaf.by_parity leaf.set w.board good w.bound) (settled ws bytes (omega arith) boards)))

    citation_decided : Decided (Pending v log i (w ∷ ws) (32 ∷ bytes))
    citation_decided = elim (begins_decided bytes) [
      | inr none ↦ inr (λ p. none (citation_number v is.few_sets log i fits w ws bytes p))
      | inl begins ↦ subst (λ bs. Decided (Pending v log i (w ∷ ws) (32 ∷ bs))) (sym begins.is)
          (equally_decided (citation_byte v is.few_sets log i fits w ws begins.number begins.rest begins.fits)
          (both (cites_decided begins.number w.board w.bound) (settled ws begins.rest (shorter begins) boards)))
    ]
      where
        shorter : (begins : BeginsWithNumber bytes) → length begins.rest ≤ length bytes
        shorter begins = let all = length-append (to_be_bytes w32 begins.number) begins.rest in let e = ap length begins.is in omega arith

    abbrev DecidedAt : ℕ → Type 0
    DecidedAt byte = Decided (Pending v log i (w ∷ ws) (byte ∷ bytes))

    node_decided : (byte : ℕ) → DecidedAt byte
    node_decided byte = elim (cases_eq byte 0) [
      | inl e ↦ subst DecidedAt (sym e) branch_decided
      | inr some ↦ elim (is_leaf_decided log.version byte) [
        | inl leaf ↦ leaf_decided byte leaf
        | inr no_leaf ↦ elim (cases_eq byte 32) [
          | inl e ↦ subst DecidedAt (sym e) citation_decided
          | inr other ↦ inr (other_byte v is.few_sets log i fits w ws byte bytes some no_leaf other)
        ]
      ]
    ]

  pending_within : (n : ℕ) (ws : List Waiting) (bytes : List ℕ) → length bytes ≤ n → AreBoards v.side ws → Decided (Pending v log i ws bytes)
  pending_within n [] [] short boards = inl refl
  pending_within n [] (byte ∷ bytes) short boards = inr (λ e. cc)
  pending_within n (w ∷ ws) [] short boards = inr (empty_bytes v is.few_sets log i fits w ws)
  pending_within zero (w ∷ ws) (byte ∷ bytes) short boards = absurd (omega arith)
  pending_within (suc n) (w ∷ ws) (byte ∷ bytes) short boards =
      node_decided w boards.0 ws boards.1 bytes (λ vs rest low are. pending_within n vs rest (omega arith) are) byte

  -- each node takes a byte at least, so this ends
  pub pending_decided : (ws : List Waiting) (bytes : List ℕ) → AreBoards v.side ws → Decided (Pending v log i ws bytes)
  pending_decided ws bytes boards = pending_within (length bytes) ws bytes (omega arith) boards

-- ---- lemmas

-- whether a lemma of a log is good over a bundle is decided
pub good_decided : (v : ShownBundle) → IsBundle v → (log : Log) → IsLog log → log.side ≡ v.side → (i : ℕ) → Decided (IsGood v log i)
good_decided v is log is_log side i = equally_decided (good_is_pending v log i) (go (slice_get log.lemmas i) refl)
  where
    go : (o : Option Lemma) → slice_get log.lemmas i ≡ o
        → Decided ((lemma : Lemma) × (slice_get log.lemmas i ≡ Some lemma) × Pending v log i (lemma_waiting lemma ∷ []) lemma.tree)
    go None there = inr (λ p. let e : slice_get log.lemmas i ≡ Some p.0 = p.1 in cc)
    go (Some lemma) there =
        let low : i < length log.lemmas = slice_get_within log.lemmas i lemma there in
        let few = is_log.size.few in
        let board : IsBoardOf v.side lemma.board = board_of v is log is_log side i lemma there in
        elim (pending_decided v is log i (omega arith) (lemma_waiting lemma ∷ []) lemma.tree (board, tt)) [
          | inl p ↦ inl (lemma, there, p)
          | inr none ↦ inr (λ p.
              let e : slice_get log.lemmas i ≡ Some p.0 = p.1 in
              let same : p.0 ≡ lemma = cc in
              none (subst (λ l. Pending v log i (lemma_waiting l ∷ []) l.tree) same p.2))
        ]
