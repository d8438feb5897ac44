-- The steps of a search, on a board that was reached.
use Rattle.std.proofs.Common.{◌≡◌, ◌≢◌, ℕ, ◌+◌, ◌-◌, ◌<◌, ◌≤◌, ◌↔◌, false, List, [], reverse, Result, Ok, Err, Some, refl, sym, ◌∙◌}
use Rattle.std.proofs.Common.{ap, subst, eq-eqb, ne_eqb, arith}
use Rattle.std.specs.Prelude.{IfErr, IsErrAnd, OnOk}
use Rattle.puz_board.specs.Boards.{IsGoal, moved}
use Rattle.puz_board.specs.declared.moves.Move.{Move}
use Rattle.puz_board.specs.declared.moves.Move.TheVariants.{Up, Down, Left, Right}
use Rattle.puz_search.specs.Outcomes.{AfterMove, IsRefuted, IsStop, IsTrail, after_move_counts, bound_at, counts_at, guide_at, is_solved_at}
use Rattle.puz_search.specs.Outcomes.{part_child_counts, part_children_counts, part_counts_at, walk_at}
use Rattle.move_strings.specs.Automata.{left_out, next_at}
use Rattle.puz_walk.specs.Walks.{IsOpen, LeadsNowhere, ShownWalk}
use Rattle.move_strings.specs.BoundParts.{ShownPart}
use Rattle.puz_search.specs.Prefixes.{Count, IsInside, IsOutside, at_least, both_counts, counted, in_all, next_ahead, next_rank, only_part}
use Rattle.puz_search.specs.Searches.{leaves_out}
use Rattle.puz_search.specs.declared.efforts.Effort.{Effort}
use Rattle.puz_search.specs.declared.efforts.Stop.{Stop}
use Rattle.puz_search.specs.declared.efforts.Stop.TheVariants.{Solved, Spent}
use Rattle.puz_search.specs.declared.walks.Reached.{Reached}
use Rattle.puz_search.proofs.FailLemmas.{at_child, at_none_counted, at_nowhere, at_out, part_goal, part_here, part_more, part_open, part_outside}
use Rattle.puz_search.proofs.OutcomeLemmas.{refuted_as, refuted_none, refuted_both, stop_as, stop_first, stop_second}
use Rattle.puz_search.proofs.TrailLemmas.{reverse_push, trail_end, trail_move}

-- ---- results

-- what is so of an error is so in each weaker form
pub err_as : {A X : Type 0} (P Q : X → Type 0) → ((x : X) → P x → Q x) → (o : Result A X) → IfErr o P → IfErr o Q
err_as P Q f (Ok a) h = h
err_as P Q f (Err x) h = f x h

-- of one result and an equal one
pub err_both : {A X : Type 0} (P Q R : X → Type 0) → ((x : X) → P x → Q x → R x) → (o other : Result A X) → other ≡ o → IfErr o P → IfErr other Q
    → IfErr other R
err_both P Q R f (Ok a) (Ok b) e h g = h
err_both P Q R f (Ok a) (Err y) e h g = cc
err_both P Q R f (Err x) (Ok b) e h g = g
err_both {A} P Q R f (Err x) (Err y) e h g = let same : x ≡ y = cc in f y (subst P same h) g

-- what follows from two facts that equal results bring where they are fine, they bring too
pub ok_both : {A X : Type 0} (P Q R : Type 0) → (P → Q → R) → (o other : Result A X) → other ≡ o → OnOk o P → OnOk other Q → OnOk other R
ok_both P Q R f (Ok a) (Ok b) e h g = f h g
ok_both P Q R f (Ok a) (Err y) e h g = g
ok_both P Q R f (Err x) (Ok b) e h g = cc
ok_both P Q R f (Err x) (Err y) e h g = g

-- where it is this one
pub err_is : {A X : Type 0} (P : X → Type 0) (x : X) (o : Result A X) → IsErrAnd o (λ y. y ≡ x) → P x → IfErr o P
err_is P x (Ok a) h p = absurd h
err_is P x (Err y) h p = subst P (sym h) p

-- what a result brings where it is fine, it brings in each weaker form
pub ok_as : {A X : Type 0} (P Q : Type 0) → (P → Q) → (o : Result A X) → OnOk o P → OnOk o Q
ok_as P Q f (Ok a) h = f h
ok_as P Q f (Err x) h = h

-- ---- what needs no walk

-- the automaton has a step
pub step_kept : (steps : List ℕ) (state next : ℕ) (move : Move) → next_at steps state move ≡ next → next ≢ left_out → leaves_out steps state move ≡ false
step_kept steps state next move to kept = ne_eqb (next_at steps state move) left_out (λ e. kept (sym to ∙ e))

-- ---- a board

-- with no letter to come and rank 0, the letters read are of the only part
pub only_inside : IsInside only_part 0 0
only_inside e = refl

-- what is seen of a walk is `shown`; so many letters that tell a part are to come, behind letters of this rank
module _ {W : Type 0} (shown : W → ShownWalk) (p : ShownPart) (ahead rank : ℕ) where
  module _ (r : Reached W) (here : ahead ≡ 0) (inside : IsInside p ahead rank) where
    here_same : (count : Count) (n : ℕ) → counts_at shown r count n ↔ part_counts_at shown p ahead rank r count n
    here_same count n =
        let same = part_here (guide_at shown r) p (walk_at shown r).board r.state count ahead rank (bound_at shown r) here inside n in (same.1, same.0)

    -- behind the last letter
    pub here_refuted : (old new : Effort) → IsRefuted (counts_at shown r) old new → IsRefuted (part_counts_at shown p ahead rank r) old new
    here_refuted old new is = refuted_as (counts_at shown r) (part_counts_at shown p ahead rank r) here_same old new is

    -- behind the last letter of a part, where the search of all moves stops, so does that of the part
    pub here_stopped : (stop : Stop) (old new : Effort) → IsStop (counts_at shown r) (is_solved_at shown r) stop old new
        → IsStop (part_counts_at shown p ahead rank r) (is_solved_at shown r) stop old new
    here_stopped stop old new is = stop_as (counts_at shown r) (part_counts_at shown p ahead rank r) here_same (is_solved_at shown r) stop old new is

  -- outside the part
  pub outside_refuted : (r : Reached W) → IsOutside p ahead rank → (e : Effort) → e.letters.items ≡ [] → IsRefuted (part_counts_at shown p ahead rank r) e e
  outside_refuted r out e clean =
      refuted_none (part_counts_at shown p ahead rank r) e
      (λ count. part_outside (guide_at shown r) p (walk_at shown r).board r.state count ahead rank (bound_at shown r) out) clean

  -- the goal board
  pub goal_solved : (r : Reached W) → IsInside p ahead rank → IsOpen (walk_at shown r) → IsGoal (walk_at shown r).board → (letters : List ℕ) → letters ≡ []
      → is_solved_at shown r letters × ((boards : ℕ) → ¬ part_counts_at shown p ahead rank r in_all boards)
  goal_solved r inside open_ goal letters none = (
    subst (is_solved_at shown r) (sym none) (trail_end (walk_at shown r).board (bound_at shown r) open_.some goal),
    part_goal (guide_at shown r) p (walk_at shown r).board r.state ahead rank (bound_at shown r) inside open_.some open_.not_cut goal,
  )

  -- ---- a board that is expanded

  -- after each move there are at least 0 boards
  child_some : (r : Reached W) (move : Move) → part_child_counts shown p ahead rank r move at_least 0
  child_some r move =
      at_none_counted (guide_at shown r) p (next_ahead ahead) (next_rank ahead rank move) (bound_at shown r - 1) (moved (walk_at shown r).board move)
      (leaves_out r.automaton.now.steps r.state move) (next_at r.automaton.now.steps r.state move)

  module _ (r : Reached W) (inside : IsInside p ahead rank) (open_ : IsOpen (walk_at shown r)) (far : ¬ IsGoal (walk_at shown r).board) where
    more : (count : Count) (below : ℕ) → part_children_counts shown p ahead rank r count below → part_counts_at shown p ahead rank r count (below + 1)
    more count =
        part_more (guide_at shown r) p (walk_at shown r).board r.state count ahead rank (bound_at shown r) inside open_.some open_.not_cut far

    -- where no board may be expanded
    pub spent_stopped : (e : Effort) → e.left ≡ 0 → (boards : ℕ) × part_counts_at shown p ahead rank r at_least boards × (e.left < boards)
    spent_stopped e none =
        let child = child_some r in
        let all : part_children_counts shown p ahead rank r at_least 0 =
        (0, 0, child Up, (0, 0, child Down, (0, 0, child Left, child Right, refl), refl), refl) in
        (0 + 1, more at_least 0 all, omega arith)

    module _ (old spent new : Effort) (one : old.left ≡ spent.left + 1) where
      -- where all moves of an expanded board are refuted, the board is, with itself as one board more
      pub opened_refuted : IsRefuted (part_children_counts shown p ahead rank r) spent new → IsRefuted (part_counts_at shown p ahead rank r) old new
      opened_refuted is = record {
        boards = is.boards + 1;
        left = let left = is.left in omega arith;
        counts = λ count. more count is.boards (is.counts count);
        none = is.none;
      }

      -- where the search after the moves of an expanded board stops, the search of the board stops
      pub opened_stopped : (stop : Stop) → IsStop (part_children_counts shown p ahead rank r) (is_solved_at shown r) stop spent new
          → IsStop (part_counts_at shown p ahead rank r) (is_solved_at shown r) stop old new
      opened_stopped Solved is = (
        is.0,
        λ n h. let on = (part_open (guide_at shown r) p (walk_at shown r).board r.state ahead rank (bound_at shown r) inside open_.some open_.not_cut
            far n).0 h in is.1 on.0 on.2,
      )
      opened_stopped Spent is = (is.0 + 1, more at_least is.0 is.1, let l : spent.left < is.0 = is.2 in omega arith)

  -- ---- the boards after its moves

  module _ (r s t u : Reached W) (first : s ≡ r) (second : t ≡ s) (third : u ≡ t) where
    -- what holds of the counts after a move, and after the last two moves and three
    abbrev Child : Move → Count → ℕ → Type 0
    Child move count boards = part_child_counts shown p ahead rank r move count boards

    abbrev Two : Count → ℕ → Type 0
    Two count boards = both_counts (Child Left) (Child Right) count boards

    abbrev Three : Count → ℕ → Type 0
    Three count boards = both_counts (Child Down) Two count boards

    two_some : Two at_least 0
    two_some = (0, 0, child_some r Left, child_some r Right, refl)

    abbrev Out : Reached W → Move → Effort → Effort → Type 0
    Out x move old new = IsRefuted (part_child_counts shown p ahead rank x move) old new

    abbrev Stops : Reached W → Move → Stop → Effort → Effort → Type 0
    Stops x move stop old new = IsStop (part_child_counts shown p ahead rank x move) (is_solved_at shown x) stop old new

    abbrev Stopped : Stop → Effort → Effort → Type 0
    Stopped stop old new = IsStop (part_children_counts shown p ahead rank r) (is_solved_at shown r) stop old new

    -- where the search after the move up stops, the moves of the board stop
    pub stopped_first : (stop : Stop) (a b : Effort) → Stops r Up stop a b → Stopped stop a b
    stopped_first stop a b is = stop_first (Child Up) Three (is_solved_at shown r) (0, 0, child_some r Down, two_some, refl) stop a b is

    module _ (a b : Effort) (up : Out r Up a b) where
      -- where the move up is refuted and the search after the one down stops, the moves of the board stop
      pub stopped_second : (stop : Stop) (c : Effort) → Stops s Down stop b c → Stopped stop a c
      stopped_second stop c is =
          let S = is_solved_at shown r in
          let down = subst (λ x. Stops x Down stop b c) first is in
          stop_second (Child Up) Three S stop a b c up (stop_first (Child Down) Two S two_some stop b c down)

      module _ (c : Effort) (down : Out s Down b c) where
        down_here : Out r Down b c
        down_here = subst (λ x. Out x Down b c) first down

        -- where the moves up and down are refuted and the search after the one left stops, the moves of the board stop
        pub stopped_third : (stop : Stop) (d : Effort) → Stops t Left stop c d → Stopped stop a d
        stopped_third stop d is =
            let S = is_solved_at shown r in
            let left = subst (λ x. Stops x Left stop c d) (second ∙ first) is in
            stop_second (Child Up) Three S stop a b d up
            (stop_second (Child Down) Two S stop b c d down_here (stop_first (Child Left) (Child Right) S (child_some r Right) stop c d left))

        module _ (d : Effort) (left : Out t Left c d) where
          left_here : Out r Left c d
          left_here = subst (λ x. Out x Left c d) (second ∙ first) left

          -- where three moves are refuted and the search after the one right stops, the moves of the board stop
          pub stopped_fourth : (stop : Stop) (e : Effort) → Stops u Right stop d e → Stopped stop a e
          stopped_fourth stop e is =
              let S = is_solved_at shown r in
              let right = subst (λ x. Stops x Right stop d e) (third ∙ second ∙ first) is in
              stop_second (Child Up) Three S stop a b e up
              (stop_second (Child Down) Two S stop b c e down_here (stop_second (Child Left) (Child Right) S stop c d e left_here right))

          -- where the moves up, down, left and right are refuted in turn, the moves of the board are
          pub refuted_four : (e : Effort) → Out u Right d e → IsRefuted (part_children_counts shown p ahead rank r) a e
          refuted_four e is =
              let right = subst (λ x. Out x Right d e) (third ∙ second ∙ first) is in
              refuted_both (Child Up) Three a b e up
              (refuted_both (Child Down) Two b c e down_here (refuted_both (Child Left) (Child Right) c d e left_here right))

  -- ---- the board after a move

  -- where the move leads nowhere
  pub nowhere_refuted : (r : Reached W) (move : Move) (e : Effort) → LeadsNowhere (walk_at shown r) move → e.letters.items ≡ []
      → IsRefuted (part_child_counts shown p ahead rank r move) e e
  nowhere_refuted r move e none clean =
      refuted_none (part_child_counts shown p ahead rank r move) e
      (λ count. at_nowhere (guide_at shown r) p count (next_ahead ahead) (next_rank ahead rank move) (bound_at shown r - 1) (moved (walk_at shown r).board move)
      (leaves_out r.automaton.now.steps r.state move)
      (next_at r.automaton.now.steps r.state move) none) clean

  -- where the automaton leaves the move out
  pub out_refuted : (r : Reached W) (move : Move) (e : Effort) → next_at r.automaton.now.steps r.state move ≡ left_out → e.letters.items ≡ []
      → IsRefuted (part_child_counts shown p ahead rank r move) e e
  out_refuted r move e out clean =
      refuted_none (part_child_counts shown p ahead rank r move) e
      (λ count. at_out (moved (walk_at shown r).board move) (leaves_out r.automaton.now.steps r.state move)
      (after_move_counts shown p ahead rank r count move) (eq-eqb (next_at r.automaton.now.steps r.state move) left_out out)) clean

  module _ (r next : Reached W) (move : Move) (some : 1 ≤ bound_at shown r) (on : leaves_out r.automaton.now.steps r.state move ≡ false)
      (leads : moved (walk_at shown r).board move ≡ Some (walk_at shown next).board) (guide : guide_at shown next ≡ guide_at shown r)
      (state : next.state ≡ next_at r.automaton.now.steps r.state move)
      (bound : bound_at shown next ≡ bound_at shown r - 1)
      (q : ShownPart) (a m : ℕ) (part : q ≡ p) (less : a ≡ next_ahead ahead) (read : m ≡ next_rank ahead rank move) where
    same_counts : (count : Count) (boards : ℕ) → part_counts_at shown q a m next count boards ↔ part_child_counts shown p ahead rank r move count boards
    same_counts count boards =
        let to = next_at r.automaton.now.steps r.state move in
        let on_board = (walk_at shown next).board in
        let at = at_child (moved (walk_at shown r).board move) (leaves_out r.automaton.now.steps r.state move)
        (after_move_counts shown p ahead rank r count move) on_board leads on boards in (
          λ h. at.1 (subst (λ g. counted g p (next_ahead ahead) (next_rank ahead rank move) (bound_at shown r - 1) on_board to count boards) guide
              (subst (λ k. counted (guide_at shown next) p (next_ahead ahead) (next_rank ahead rank move) k on_board to count boards) bound
              (subst (λ k. counted (guide_at shown next) p (next_ahead ahead) (next_rank ahead rank move) (bound_at shown next) on_board k count boards) state
              (subst (λ k. counted (guide_at shown next) p (next_ahead ahead) k (bound_at shown next) on_board next.state count boards) read
              (subst (λ k. counted (guide_at shown next) p k m (bound_at shown next) on_board next.state count boards) less
              (subst (λ k. counted (guide_at shown next) k a m (bound_at shown next) on_board next.state count boards) part h)))))),
          λ h. subst (λ k. counted (guide_at shown next) k a m (bound_at shown next) on_board next.state count boards) (sym part)
              (subst (λ k. counted (guide_at shown next) p k m (bound_at shown next) on_board next.state count boards) (sym less)
              (subst (λ k. counted (guide_at shown next) p (next_ahead ahead) k (bound_at shown next) on_board next.state count boards) (sym read)
              (subst (λ k. counted (guide_at shown next) p (next_ahead ahead) (next_rank ahead rank move) (bound_at shown next) on_board k count boards) (sym state)
              (subst (λ k. counted (guide_at shown next) p (next_ahead ahead) (next_rank ahead rank move) k on_board to count boards) (sym bound)
              (subst (λ g. counted g p (next_ahead ahead) (next_rank ahead rank move) (bound_at shown r - 1) on_board to count boards) (sym guide) (at.0 h)))))),
        )

    -- where the search of the board after a move is refuted, the move is refuted
    pub child_refuted : (old new : Effort) → IsRefuted (part_counts_at shown q a m next) old new
        → IsRefuted (part_child_counts shown p ahead rank r move) old new
    child_refuted old new is = refuted_as (part_counts_at shown q a m next) (part_child_counts shown p ahead rank r move) same_counts old new is

    -- where the search of the board after a move stops, the move stops, and its letter is added to a solution
    pub child_stopped : (stop : Stop) (old between new : Effort) → IsStop (part_counts_at shown q a m next) (is_solved_at shown next) stop old between
        → AfterMove move stop between new
        → IsStop (part_child_counts shown p ahead rank r move) (is_solved_at shown r) stop old new
    child_stopped Solved old between new is after = (
      subst (IsTrail (walk_at shown r).board (bound_at shown r)) (sym (ap reverse after.2 ∙ reverse_push between.letters.items after.0))
          (trail_move (walk_at shown r).board (walk_at shown next).board (bound_at shown r) after.0 (reverse between.letters.items) move some leads after.1
          (subst (λ k. IsTrail (walk_at shown next).board k (reverse between.letters.items)) bound is.0)),
      λ n h. is.1 n ((same_counts in_all n).1 h),
    )
    child_stopped Spent old between new is after = (is.0, (same_counts at_least is.0).0 is.1, is.2)
