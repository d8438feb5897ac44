-- Searches that fail bound the solutions of their boards, and step by step what holds of the counts of a search.
use Rattle.std.proofs.Common.{◌≡◌, ℕ, zero, suc, ◌+◌, ◌-◌, ◌*◌, ◌%◌, ◌<◌, ◌≤◌, ◌↔◌, ◌⊎◌, Bool, true, false, eqb, List, [], ◌∷◌, length, take, Option}
use Rattle.std.proofs.Common.{Some, None, inl, inr, refl, sym, subst, eq-eqb, ne_eqb, arith}
use Rattle.puz_board.specs.Boards.{IsBoardOf, IsGoal, moved}
use Rattle.puz_board.specs.declared.moves.Move.{Move}
use Rattle.puz_board.specs.declared.moves.Move.TheVariants.{Up, Down, Left, Right}
use Rattle.puz_board.proofs.MovedLemmas.{IsBoardOf-moved}
use Rattle.set_sum.specs.Bounds.{IsBounded}
use Rattle.move_strings.specs.Automata.{next_at}
use Rattle.move_strings.specs.BoundParts.{IsPartBounded, ShownPart, letters_of, rank_after}
use Rattle.move_strings.specs.Strings.{rank_of}
use Rattle.move_strings.proofs.LeastLemmas.{least-kept}
use Rattle.puz_walk.specs.Walks.{IsClosed, IsCutOff}
use Rattle.puz_search.specs.Guides.{IsGuide, ShownGuide, automaton_of}
use Rattle.puz_search.specs.Prefixes.{Count, IsInside, IsOutside, at_least, counted, in_all, next_ahead, next_rank, only_part}
use Rattle.puz_search.specs.Searches.{AtChild, AtChildren, Fails, FailsAfter, HasAfter, HasBoards, InTurn, PartFails, PartHas, SearchOfPartFails}
use Rattle.puz_search.specs.Searches.{WhereTrue, leaves_out}
use Rattle.puz_search.proofs.EnoughLemmas.{IsEnough, cut_enough, enough_bounds, far_enough, left_out_enough, next_enough, off_enough}

-- ---- the place of a move

-- no child
pub at_none : (o : Option (List ℕ)) (out : Bool) (Holds : List ℕ → ℕ → Type 0) → o ≡ None → (count : ℕ) → AtChild o out Holds count ↔ (count ≡ 0)
at_none None out Holds e count = (λ h. h, λ h. h)
at_none (Some b) out Holds e count = cc

-- at the place of a move that the automaton leaves out, a count is just 0
pub at_out : (o : Option (List ℕ)) (out : Bool) (Holds : List ℕ → ℕ → Type 0) → out ≡ true → (count : ℕ) → AtChild o out Holds count ↔ (count ≡ 0)
at_out None out Holds e count = (λ h. h, λ h. h)
at_out (Some b) true Holds e count = (λ h. h, λ h. h)
at_out (Some b) false Holds e count = cc

-- a child
pub at_child : (o : Option (List ℕ)) (out : Bool) (Holds : List ℕ → ℕ → Type 0) (next : List ℕ) → o ≡ Some next → out ≡ false → (count : ℕ)
    → AtChild o out Holds count ↔ Holds next count
at_child None out Holds next e on count = cc
at_child (Some b) true Holds next e on count = cc
at_child (Some b) false Holds next e on count =
    let same : b ≡ next = cc in
    (subst (λ c. Holds c count) same, subst (λ c. Holds c count) (sym same))

-- none at all
child_none : (o : Option (List ℕ)) (out : Bool) (Holds : List ℕ → ℕ → Type 0) → ((next : List ℕ) → Holds next 0) → AtChild o out Holds 0
child_none None out Holds none = refl
child_none (Some b) true Holds none = refl
child_none (Some b) false Holds none = none b

-- where something is so
where_true : (t : Bool) → t ≡ true → (Holds : ℕ → Type 0) (count : ℕ) → WhereTrue t Holds count ↔ Holds count
where_true true e Holds count = (λ h. h, λ h. h)
where_true false e Holds count = cc

where_false : (t : Bool) → t ≡ false → (Holds : ℕ → Type 0) (count : ℕ) → WhereTrue t Holds count ↔ (count ≡ 0)
where_false true e Holds count = cc
where_false false e Holds count = (λ h. h, λ h. h)

where_closed : (t : Bool) (Holds : ℕ → Type 0) → ((count : ℕ) → Holds count ↔ (count ≡ 0)) → (count : ℕ) → WhereTrue t Holds count ↔ (count ≡ 0)
where_closed true Holds none count = none count
where_closed false Holds none count = (λ h. h, λ h. h)

where_none : (t : Bool) (Holds : ℕ → Type 0) → Holds 0 → WhereTrue t Holds 0
where_none true Holds none = none
where_none false Holds none = refl

-- ---- one board

module _ (g : ShownGuide) (b : List ℕ) (state : ℕ) where
  -- below any bound but 0
  module _ (r : ℕ) (After : Move → List ℕ → ℕ → Type 0) where
    after_cut : IsCutOff g.bundle b r → (boards : ℕ) → FailsAfter g r b state After boards ↔ (boards ≡ 0)
    after_cut cut boards = (λ h. elim h [ inl none ↦ none.1 | inr open_ ↦ absurd (open_.0 cut) ], λ e. inl (cut, e))

    after_open : (¬ IsCutOff g.bundle b r) → (¬ IsGoal b) → (boards : ℕ)
        → FailsAfter g r b state After boards ↔ ((below : ℕ) × (boards ≡ below + 1) × AtChildren g.steps state b After below)
    after_open whole far boards = (λ h. elim h [ inl none ↦ absurd (whole none.0) | inr on ↦ (on.2, on.3, on.4) ], λ h. inr (whole, far, h.0, h.1, h.2))

    after_goal : (¬ IsCutOff g.bundle b r) → IsGoal b → (boards : ℕ) → ¬ FailsAfter g r b state After boards
    after_goal whole goal boards h = elim h [ inl none ↦ whole none.0 | inr on ↦ on.1 goal ]

    has_cut : IsCutOff g.bundle b r → (boards : ℕ) → HasAfter g r b state After boards ↔ (boards ≡ 0)
    has_cut cut boards = (λ h. elim h [ inl none ↦ none | inr on ↦ absurd (on.0 cut) ], λ e. inl e)

  fails_closed : (r : ℕ) → IsClosed g.bundle b r → (boards : ℕ) → Fails g r b state boards ↔ (boards ≡ 0)
  fails_closed zero closed boards = (λ h. h, λ h. h)
  fails_closed (suc r) closed boards = elim closed [
    | inl none ↦ absurd (omega arith)
    | inr cut ↦ after_cut (suc r) (λ move next. Fails g r next (next_at g.steps state move)) cut boards
  ]

  has_closed : (r : ℕ) → IsClosed g.bundle b r → (boards : ℕ) → HasBoards g r b state boards ↔ (boards ≡ 0)
  has_closed zero closed boards = (λ h. h, λ h. h)
  has_closed (suc r) closed boards = elim closed [
    | inl none ↦ absurd (omega arith)
    | inr cut ↦ has_cut (suc r) (λ move next. HasBoards g r next (next_at g.steps state move)) cut boards
  ]

  has_none : (r : ℕ) → HasBoards g r b state 0
  has_none zero = refl
  has_none (suc r) = inl refl

-- ---- one board, behind the letters that tell a part

module _ (g : ShownGuide) (p : ShownPart) (b : List ℕ) (state : ℕ) where
  -- so many letters are to come, behind letters of this rank
  module _ (ahead rank : ℕ) where
    -- after a move, below such a bound
    abbrev pub Next : Count → ℕ → Move → List ℕ → ℕ → Type 0
    Next c r move next boards = counted g p (next_ahead ahead) (next_rank ahead rank move) r next (next_at g.steps state move) c boards

  -- where no letter is to come
  pub part_here : (c : Count) (ahead rank r : ℕ) → ahead ≡ 0 → IsInside p ahead rank → (boards : ℕ)
      → counted g p ahead rank r b state c boards ↔ counted g only_part 0 0 r b state c boards
  part_here in_all zero rank r none inside boards =
      where_true (eqb (rank % p.count) p.index) (eq-eqb (rank % p.count) p.index (inside refl)) (Fails g r b state) boards
  part_here at_least zero rank r none inside boards =
      where_true (eqb (rank % p.count) p.index) (eq-eqb (rank % p.count) p.index (inside refl)) (HasBoards g r b state) boards
  part_here c (suc ahead) rank r none inside boards = absurd (omega arith)

  -- where no letter is to come and those read aren't of the part, only a count of 0 boards holds
  pub part_outside : (c : Count) (ahead rank r : ℕ) → IsOutside p ahead rank → (boards : ℕ) → counted g p ahead rank r b state c boards ↔ (boards ≡ 0)
  part_outside in_all zero rank r out boards = where_false (eqb (rank % p.count) p.index) (ne_eqb (rank % p.count) p.index out.1) (Fails g r b state) boards
  part_outside at_least zero rank r out boards =
      where_false (eqb (rank % p.count) p.index) (ne_eqb (rank % p.count) p.index out.1) (HasBoards g r b state) boards
  part_outside c (suc ahead) rank r out boards = absurd (let none = out.0 in omega arith)

  -- of a closed board only a count of 0 boards holds
  pub part_closed : (c : Count) (ahead rank r : ℕ) → IsClosed g.bundle b r → (boards : ℕ) → counted g p ahead rank r b state c boards ↔ (boards ≡ 0)
  part_closed in_all zero rank r closed boards = where_closed (eqb (rank % p.count) p.index) (Fails g r b state) (fails_closed g b state r closed) boards
  part_closed at_least zero rank r closed boards = where_closed (eqb (rank % p.count) p.index) (HasBoards g r b state) (has_closed g b state r closed) boards
  part_closed in_all (suc ahead) rank zero closed boards = (λ h. h, λ h. h)
  part_closed at_least (suc ahead) rank zero closed boards = (λ h. h, λ h. h)
  part_closed in_all (suc ahead) rank (suc r) closed boards = elim closed [
    | inl none ↦ absurd (omega arith)
    | inr cut ↦ after_cut g b state (suc r) (Next (suc ahead) rank in_all r) cut boards
  ]
  part_closed at_least (suc ahead) rank (suc r) closed boards = elim closed [
    | inl none ↦ absurd (omega arith)
    | inr cut ↦ has_cut g b state (suc r) (Next (suc ahead) rank at_least r) cut boards
  ]

  -- 0 boards are always some
  pub part_none : (ahead rank r : ℕ) → counted g p ahead rank r b state at_least 0
  part_none zero rank r = where_none (eqb (rank % p.count) p.index) (HasBoards g r b state) (has_none g b state r)
  part_none (suc ahead) rank zero = refl
  part_none (suc ahead) rank (suc r) = inl refl

  -- where it is expanded
  pub part_open : (ahead rank r : ℕ) → IsInside p ahead rank → 1 ≤ r → (¬ IsCutOff g.bundle b r) → (¬ IsGoal b) → (boards : ℕ)
      → PartFails g p ahead rank r b state boards ↔ ((below : ℕ) × (boards ≡ below + 1) × AtChildren g.steps state b (Next ahead rank in_all (r - 1)) below)
  part_open ahead rank zero inside some whole far boards = absurd (omega arith)
  part_open ahead rank (suc r) inside some whole far boards =
      let same : r ≡ suc r - 1 = omega arith in
      let is = subst (λ k. ((n : ℕ) → PartFails g p ahead rank (suc r) b state n
      ↔ ((below : ℕ) × (n ≡ below + 1) × AtChildren g.steps state b (Next ahead rank in_all k) below))) same (opened ahead inside) in
      is boards
    where
      opened : (k : ℕ) → IsInside p k rank → (n : ℕ)
          → PartFails g p k rank (suc r) b state n ↔ ((below : ℕ) × (n ≡ below + 1) × AtChildren g.steps state b (Next k rank in_all r) below)
      opened zero in_ n =
          let test = eq-eqb (rank % p.count) p.index (in_ refl) in
          subst (λ t. WhereTrue t (Fails g (suc r) b state) n ↔
          ((below : ℕ) × (n ≡ below + 1) × AtChildren g.steps state b (λ move next. WhereTrue t (Fails g r next (next_at g.steps state move))) below))
          (sym test)
          (after_open g b state (suc r) (λ move next. Fails g r next (next_at g.steps state move)) whole far n)
      opened (suc k) in_ n = after_open g b state (suc r) (Next (suc k) rank in_all r) whole far n

  -- with the boards after its moves it has one more
  pub part_more : (c : Count) (ahead rank r : ℕ) → IsInside p ahead rank → 1 ≤ r → (¬ IsCutOff g.bundle b r) → (¬ IsGoal b) → (below : ℕ)
      → AtChildren g.steps state b (Next ahead rank c (r - 1)) below → counted g p ahead rank r b state c (below + 1)
  part_more in_all ahead rank r inside some whole far below at = (part_open ahead rank r inside some whole far (below + 1)).1 (below, refl, at)
  part_more at_least ahead rank zero inside some whole far below at = absurd (omega arith)
  part_more at_least ahead rank (suc r) inside some whole far below at =
      let same : suc r - 1 ≡ r = omega arith in
      opened ahead inside (subst (λ k. AtChildren g.steps state b (Next ahead rank at_least k) below) same at)
    where
      opened : (k : ℕ) → IsInside p k rank → AtChildren g.steps state b (Next k rank at_least r) below → PartHas g p k rank (suc r) b state (below + 1)
      opened zero in_ on =
          let test = eq-eqb (rank % p.count) p.index (in_ refl) in
          let Says : Bool → Type 0 = λ t. AtChildren g.steps state b (λ move next. WhereTrue t (HasBoards g r next (next_at g.steps state move))) below in
          subst (λ t. WhereTrue t (HasBoards g (suc r) b state) (below + 1)) (sym test) (inr (whole, far, below, refl, subst Says test on))
      opened (suc k) in_ on = inr (whole, far, below, refl, on)

  -- where it is the goal board
  pub part_goal : (ahead rank r : ℕ) → IsInside p ahead rank → 1 ≤ r → (¬ IsCutOff g.bundle b r) → IsGoal b → (boards : ℕ)
      → ¬ PartFails g p ahead rank r b state boards
  part_goal ahead rank zero inside some whole goal boards h = absurd (omega arith)
  part_goal zero rank (suc r) inside some whole goal boards h =
      after_goal g b state (suc r) (λ move next. Fails g r next (next_at g.steps state move)) whole goal boards
      ((part_here in_all zero rank (suc r) refl inside boards).0 h)
  part_goal (suc ahead) rank (suc r) inside some whole goal boards h = after_goal g b state (suc r) (Next (suc ahead) rank in_all r) whole goal boards h

-- where a move leads to no open board
pub at_nowhere : (g : ShownGuide) (p : ShownPart) (c : Count) (ahead rank r : ℕ) (o : Option (List ℕ)) (out : Bool) (to : ℕ)
    → ((next : List ℕ) → o ≡ Some next → IsClosed g.bundle next r)
    → (count : ℕ) → AtChild o out (λ next. counted g p ahead rank r next to c) count ↔ (count ≡ 0)
at_nowhere g p c ahead rank r None out to none count = (λ h. h, λ h. h)
at_nowhere g p c ahead rank r (Some b) true to none count = (λ h. h, λ h. h)
at_nowhere g p c ahead rank r (Some b) false to none count = part_closed g p b to c ahead rank r (none b refl) count

-- 0 boards are some after a move
pub at_none_counted : (g : ShownGuide) (p : ShownPart) (ahead rank r : ℕ) (o : Option (List ℕ)) (out : Bool) (to : ℕ)
    → AtChild o out (λ next. counted g p ahead rank r next to at_least) 0
at_none_counted g p ahead rank r o out to = child_none o out (λ next. counted g p ahead rank r next to at_least) (λ next. part_none g p next to ahead rank r)

-- ---- bounds

module _ (g : ShownGuide) (is : IsGuide g) (b : List ℕ) (state : ℕ) (good : IsBoardOf g.bundle.side b) where
  -- after a move, where what holds of the next board says that moves are enough there
  module _ (r : ℕ) (move : Move) (Next : List ℕ → ℕ → Type 0) (moves : List Move)
      (enough : (next : List ℕ) (boards : ℕ) → IsBoardOf g.bundle.side next → Next next boards → IsEnough g.steps (next_at g.steps state move) next r moves)
    where
      child_enough : (boards : ℕ) → AtChild (moved b move) (leaves_out g.steps state move) Next boards → IsEnough g.steps state b (suc r) (move ∷ moves)
      child_enough boards fails = go (moved b move) refl (leaves_out g.steps state move) refl fails
        where
          go : (o : Option (List ℕ)) → moved b move ≡ o → (out : Bool) → leaves_out g.steps state move ≡ out → AtChild o out Next boards
              → IsEnough g.steps state b (suc r) (move ∷ moves)
          go None off out e fails_at = off_enough g.steps state b (suc r) move off moves
          go (Some next) leads true out fails_at = left_out_enough g.steps state b (suc r) move out moves
          go (Some next) leads false kept fails_at =
              next_enough g.steps state b next r move kept leads moves (enough next boards (IsBoardOf-moved g.bundle.side b good move next leads) fails_at)

  module _ (r : ℕ) (After : Move → List ℕ → ℕ → Type 0) (boards : ℕ) (fails : FailsAfter g (suc r) b state After boards) where
    -- where moves are enough that begin with a move
    abbrev IsEnoughAfter : Move → List Move → Type 0
    IsEnoughAfter move moves =
        (next : List ℕ) (count : ℕ) → IsBoardOf g.bundle.side next → After move next count → IsEnough g.steps (next_at g.steps state move) next r moves

    each_enough : (below : ℕ) → AtChildren g.steps state b After below → (move : Move) (moves : List Move) → IsEnoughAfter move moves
        → IsEnough g.steps state b (suc r) (move ∷ moves)
    each_enough below at Up moves enough = child_enough r Up (After Up) moves enough at.0 at.2
    each_enough below at Down moves enough = child_enough r Down (After Down) moves enough at.3.0 at.3.2
    each_enough below at Left moves enough = child_enough r Left (After Left) moves enough at.3.3.0 at.3.3.2
    each_enough below at Right moves enough = child_enough r Right (After Right) moves enough at.3.3.1 at.3.3.3

    none_enough : IsEnough g.steps state b (suc r) []
    none_enough = elim fails [
      | inl cut ↦ cut_enough g.bundle g.steps state b (suc r) cut.0 is.bundle good []
      | inr on ↦ far_enough g.steps state b (suc r) on.1
    ]

    more_enough : (move : Move) (moves : List Move) → IsEnoughAfter move moves → IsEnough g.steps state b (suc r) (move ∷ moves)
    more_enough move moves enough = elim fails [
      | inl cut ↦ cut_enough g.bundle g.steps state b (suc r) cut.0 is.bundle good (move ∷ moves)
      | inr on ↦ each_enough on.2 on.4 move moves enough
    ]

module _ (g : ShownGuide) (is : IsGuide g) where
  -- where a search fails, moves that the automaton doesn't refuse and that lead home are enough
  fails_enough : (r : ℕ) (b : List ℕ) (state boards : ℕ) → IsBoardOf g.bundle.side b → Fails g r b state boards → (moves : List Move)
      → IsEnough g.steps state b r moves
  fails_enough zero b state boards good fails moves = λ kept end leads goal. omega arith
  fails_enough (suc r) b state boards good fails [] = none_enough g is b state good r (λ move next. Fails g r next (next_at g.steps state move)) boards fails
  fails_enough (suc r) b state boards good fails (move ∷ moves) =
      more_enough g is b state good r (λ step next. Fails g r next (next_at g.steps state step)) boards fails move moves
      (λ next count there h. fails_enough r next (next_at g.steps state move) count there h moves)

  -- from the first state on
  pub fails_bounds : (r : ℕ) (b : List ℕ) (boards : ℕ) → IsBoardOf g.bundle.side b → Fails g r b 0 boards → IsBounded b r
  fails_bounds r b boards good fails = enough_bounds g is b good r (fails_enough r b 0 boards good fails)

  module _ (p : ShownPart) where
    -- the moves are of the part, behind letters of this rank
    abbrev IsOf : ℕ → ℕ → List Move → Type 0
    IsOf ahead rank moves = (length moves < ahead) ⊎ (rank_after rank (take ahead moves) % p.count ≡ p.index)

    of_next : (ahead rank : ℕ) (move : Move) (moves : List Move) → IsOf (suc ahead) rank (move ∷ moves) → IsOf ahead (4 * rank + rank_of move) moves
    of_next ahead rank move moves (inl few) = inl (omega arith)
    of_next ahead rank move moves (inr here) = inr here

    -- where the search of a part fails, so are those of the part
    part_enough : (ahead rank r : ℕ) (b : List ℕ) (state boards : ℕ) → IsBoardOf g.bundle.side b → PartFails g p ahead rank r b state boards
        → (moves : List Move) → IsOf ahead rank moves
        → IsEnough g.steps state b r moves
    part_enough zero rank r b state boards good fails moves of_part =
        let inside : rank % p.count ≡ p.index = elim of_part [ inl few ↦ absurd (omega arith) | inr here ↦ here ] in
        fails_enough r b state boards good ((part_here g p b state in_all zero rank r refl (λ e. inside) boards).0 fails) moves
    part_enough (suc ahead) rank zero b state boards good fails moves of_part = λ kept end leads goal. omega arith
    part_enough (suc ahead) rank (suc r) b state boards good fails [] of_part =
        none_enough g is b state good r (Next g p b state (suc ahead) rank in_all r) boards fails
    part_enough (suc ahead) rank (suc r) b state boards good fails (move ∷ moves) of_part =
        more_enough g is b state good r (Next g p b state (suc ahead) rank in_all r) boards fails move moves
        (λ next count there h. part_enough ahead (4 * rank + rank_of move) r next (next_at g.steps state move) count there h moves
        (of_next ahead rank move moves of_part))

    -- the least solution isn't of the part
    pub part_bounds : (r : ℕ) (b : List ℕ) (boards : ℕ) → IsBoardOf g.bundle.side b → SearchOfPartFails g p r b boards → IsPartBounded p r b
    part_bounds r b boards good fails moves of_part least =
        let kept = least-kept (automaton_of g) is.automaton b good r moves least in
        let solves = least.solves in
        let low : r ≤ length moves = part_enough (letters_of p) 0 r b 0 boards good fails moves of_part kept solves.end solves.leads solves.goal in
        let short : length moves < r = solves.short in
        omega arith

-- ---- one count, and no less than any that a search has

-- two parts have one count each
once_both : (F G : ℕ → Type 0) → ((m n : ℕ) → F m → F n → m ≡ n) → ((m n : ℕ) → G m → G n → m ≡ n) → (m n : ℕ) → InTurn F G m → InTurn F G n → m ≡ n
once_both F G one other m n h k =
    let a = one h.0 k.0 h.2 k.2 in
    let b = other h.1 k.1 h.3 k.3 in
    let e : m ≡ h.0 + h.1 = h.4 in
    let f : n ≡ k.0 + k.1 = k.4 in
    omega arith

low_both : (F G H K : ℕ → Type 0) → ((m n : ℕ) → H m → F n → m ≤ n) → ((m n : ℕ) → K m → G n → m ≤ n) → (m n : ℕ) → InTurn H K m → InTurn F G n → m ≤ n
low_both F G H K one other m n h k =
    let a = one h.0 k.0 h.2 k.2 in
    let b = other h.1 k.1 h.3 k.3 in
    let e : m ≡ h.0 + h.1 = h.4 in
    let f : n ≡ k.0 + k.1 = k.4 in
    omega arith

child_once : (Holds : List ℕ → ℕ → Type 0) → ((b : List ℕ) (m n : ℕ) → Holds b m → Holds b n → m ≡ n) → (o : Option (List ℕ)) (out : Bool) (m n : ℕ)
    → AtChild o out Holds m → AtChild o out Holds n → m ≡ n
child_once Holds once None out m n h k = omega arith
child_once Holds once (Some b) true m n h k = omega arith
child_once Holds once (Some b) false m n h k = once b m n h k

child_low : (Fails Has : List ℕ → ℕ → Type 0) → ((b : List ℕ) (m n : ℕ) → Has b m → Fails b n → m ≤ n) → (o : Option (List ℕ)) (out : Bool) (m n : ℕ)
    → AtChild o out Has m → AtChild o out Fails n → m ≤ n
child_low Fails Has low None out m n h k = omega arith
child_low Fails Has low (Some b) true m n h k = omega arith
child_low Fails Has low (Some b) false m n h k = low b m n h k

where_once : (t : Bool) (Holds : ℕ → Type 0) → ((m n : ℕ) → Holds m → Holds n → m ≡ n) → (m n : ℕ) → WhereTrue t Holds m → WhereTrue t Holds n → m ≡ n
where_once true Holds once m n h k = once m n h k
where_once false Holds once m n h k = omega arith

where_low : (t : Bool) (Fails Has : ℕ → Type 0) → ((m n : ℕ) → Has m → Fails n → m ≤ n) → (m n : ℕ) → WhereTrue t Has m → WhereTrue t Fails n → m ≤ n
where_low true Fails Has low m n h k = low m n h k
where_low false Fails Has low m n h k = omega arith

module _ (g : ShownGuide) (r : ℕ) (b : List ℕ) (state : ℕ) (After : Move → List ℕ → ℕ → Type 0) where
  abbrev At : Move → ℕ → Type 0
  At move = AtChild (moved b move) (leaves_out g.steps state move) (After move)

  after_once : ((move : Move) (next : List ℕ) (m n : ℕ) → After move next m → After move next n → m ≡ n) → (m n : ℕ) → FailsAfter g r b state After m
      → FailsAfter g r b state After n → m ≡ n
  after_once once m n h k =
      let one = λ (move : Move). child_once (After move) (once move) (moved b move) (leaves_out g.steps state move) in
      elim h [
        | inl cut ↦ elim k [ inl other ↦ (let e : m ≡ 0 = cut.1 in let f : n ≡ 0 = other.1 in omega arith) | inr on ↦ absurd (on.0 cut.0) ]
        | inr on ↦ elim k [
          | inl cut ↦ absurd (on.0 cut.0)
          | inr other ↦
              let same : on.2 ≡ other.2 =
              once_both (At Up) (InTurn (At Down) (InTurn (At Left) (At Right))) (one Up)
              (once_both (At Down) (InTurn (At Left) (At Right)) (one Down) (once_both (At Left) (At Right) (one Left) (one Right)))
              on.2 other.2 on.4 other.4 in
              let e : m ≡ on.2 + 1 = on.3 in
              let f : n ≡ other.2 + 1 = other.3 in
              omega arith
        ]
      ]

  after_low : (Has : Move → List ℕ → ℕ → Type 0) → ((move : Move) (next : List ℕ) (m n : ℕ) → Has move next m → After move next n → m ≤ n) → (m n : ℕ)
      → HasAfter g r b state Has m → FailsAfter g r b state After n → m ≤ n
  after_low Has low m n h k =
      let F = At in
      let H = λ (move : Move). AtChild (moved b move) (leaves_out g.steps state move) (Has move) in
      let one = λ (move : Move). child_low (After move) (Has move) (low move) (moved b move) (leaves_out g.steps state move) in
      elim h [
        | inl none ↦ (let e : m ≡ 0 = none in omega arith)
        | inr on ↦ elim k [
          | inl cut ↦ absurd (on.0 cut.0)
          | inr other ↦
              let less : on.2 ≤ other.2 =
              low_both (F Up) (InTurn (F Down) (InTurn (F Left) (F Right))) (H Up) (InTurn (H Down) (InTurn (H Left) (H Right))) (one Up)
              (low_both (F Down) (InTurn (F Left) (F Right)) (H Down) (InTurn (H Left) (H Right)) (one Down)
              (low_both (F Left) (F Right) (H Left) (H Right) (one Left) (one Right)))
              on.2 other.2 on.4 other.4 in
              let e : m ≡ on.2 + 1 = on.3 in
              let f : n ≡ other.2 + 1 = other.3 in
              omega arith
        ]
      ]

module _ (g : ShownGuide) where
  -- a search fails with one count of boards
  fails_once : (r : ℕ) (b : List ℕ) (state : ℕ) (m n : ℕ) → Fails g r b state m → Fails g r b state n → m ≡ n
  fails_once zero b state m n h k = omega arith
  fails_once (suc r) b state m n h k =
      after_once g (suc r) b state (λ move next. Fails g r next (next_at g.steps state move)) (λ move next. fails_once r next (next_at g.steps state move))
      m n h k

  -- and has no more
  has_low : (r : ℕ) (b : List ℕ) (state : ℕ) (m n : ℕ) → HasBoards g r b state m → Fails g r b state n → m ≤ n
  has_low zero b state m n h k = omega arith
  has_low (suc r) b state m n h k =
      after_low g (suc r) b state (λ move next. Fails g r next (next_at g.steps state move)) (λ move next. HasBoards g r next (next_at g.steps state move))
      (λ move next. has_low r next (next_at g.steps state move)) m n h k

  module _ (p : ShownPart) where
    -- the same of the search of a part
    pub part_once : (ahead rank r : ℕ) (b : List ℕ) (state : ℕ) (m n : ℕ) → PartFails g p ahead rank r b state m → PartFails g p ahead rank r b state n → m ≡ n
    part_once zero rank r b state m n h k = where_once (eqb (rank % p.count) p.index) (Fails g r b state) (fails_once r b state) m n h k
    part_once (suc ahead) rank zero b state m n h k = omega arith
    part_once (suc ahead) rank (suc r) b state m n h k =
        after_once g (suc r) b state (Next g p b state (suc ahead) rank in_all r)
        (λ move next. part_once ahead (4 * rank + rank_of move) r next (next_at g.steps state move)) m n h k

    -- where the search of a part fails, it has no more boards than it expands
    pub part_low : (ahead rank r : ℕ) (b : List ℕ) (state : ℕ) (m n : ℕ) → PartHas g p ahead rank r b state m → PartFails g p ahead rank r b state n → m ≤ n
    part_low zero rank r b state m n h k = where_low (eqb (rank % p.count) p.index) (Fails g r b state) (HasBoards g r b state) (has_low r b state) m n h k
    part_low (suc ahead) rank zero b state m n h k = omega arith
    part_low (suc ahead) rank (suc r) b state m n h k =
        after_low g (suc r) b state (Next g p b state (suc ahead) rank in_all r) (Next g p b state (suc ahead) rank at_least r)
        (λ move next. part_low ahead (4 * rank + rank_of move) r next (next_at g.steps state move)) m n h k
