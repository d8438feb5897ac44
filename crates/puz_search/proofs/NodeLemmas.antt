-- Nodes, the moves that lead to them, and what the searches below them answer.
use Rattle.std.proofs.Common.{◌≡◌, ℕ, ◌+◌, ◌-◌, ◌≤◌, ◌↔◌, ◌⊎◌, inl, inr, false, List, [], ◌∷◌, ◌++◌, Option, Some, IfSome, refl, sym, ap, subst}
use Rattle.std.proofs.Common.{append_assoc, eq-eqb, arith}
use Rattle.puz_board.specs.Boards.{IsGoal, moved}
use Rattle.puz_board.specs.Cells.{move_of_letter}
use Rattle.puz_board.specs.declared.moves.Move.{Move}
use Rattle.puz_board.specs.declared.moves.Move.TheVariants.{Up, Down, Left, Right}
use Rattle.puz_search.specs.Frontiers.{Adds, IsMore, child_counts_of}
use Rattle.puz_search.specs.Guides.{ShownGuide, automaton_of}
use Rattle.puz_search.specs.Nodes.{IsLed, IsPartAnswer, IsWalkTo, node_counts, solves_below, solves_first, walk_to}
use Rattle.puz_search.specs.Prefixes.{Count, IsInside, IsOutside, both_counts, counted, next_ahead, next_rank, part_of}
use Rattle.puz_search.specs.Outcomes.{IsTrail, guide_at, prefix_counts_at, walk_at}
use Rattle.move_strings.specs.Automata.{left_out, next_at}
use Rattle.puz_walk.specs.Walks.{IsClosed, IsCutOff, LeadsNowhere, ShownWalk}
use Rattle.puz_search.specs.Searches.{leaves_out}
use Rattle.puz_search.specs.declared.answers.SearchAnswer.{SearchAnswer}
use Rattle.puz_search.specs.declared.answers.SearchAnswer.TheVariants.{Refuted, Solved, Spent}
use Rattle.puz_search.specs.declared.nodes.Node.{Node}
use Rattle.puz_search.specs.declared.searches.Search.{Search}
use Rattle.puz_search.specs.declared.walks.Reached.{Reached}
use Rattle.puz_search.proofs.CountLemmas.{AreSame, adds_as, adds_both}
use Rattle.puz_search.proofs.FailLemmas.{at_child, at_nowhere, at_out, part_closed, part_more, part_open, part_outside}
use Rattle.puz_search.proofs.TrailLemmas.{trail_move}

-- the letters behind a move of a node
pub led_after : (s : Search) (node : Node) (move : Move) (next : List ℕ) (letter : ℕ) (text : List ℕ) → IsLed s node → 1 ≤ node.bound
    → moved node.board move ≡ Some next → move_of_letter letter ≡ Some move
    → IsTrail next (node.bound - 1) text → IsTrail s.start.now.board s.bound ((node.letters.items ++ letter ∷ []) ++ text)
led_after s node move next letter text led some leads names trail =
    subst (IsTrail s.start.now.board s.bound) (sym (append_assoc node.letters.items (letter ∷ []) text))
    (led.leads (letter ∷ text) (trail_move node.board next node.bound letter text move some leads names trail))

-- what a search below a node answers, said of the first board
pub node_answer : (s : Search) (node : Node) → IsLed s node → (Part : Count → ℕ → Type 0) (budget : ℕ) (answer : SearchAnswer)
    → IsPartAnswer Part (solves_below node) budget answer
    → IsPartAnswer Part (solves_first s) budget answer
node_answer s node led Part budget (Refuted boards) is = is
node_answer s node led Part budget (Solved letters) is = (subst (IsTrail s.start.now.board s.bound) (sym is.0.2) (led.leads is.0.0 is.0.1), is.1)
node_answer s node led Part budget Spent is = is

-- ---- a node that is reached

-- a search reaches the board of the node in its state, led by the guide; what is seen of its walk is `shown`
pub record IsReached {W : Type 0} (shown : W → ShownWalk) (s : Search) (node : Node) (reached : Reached W) : Type 0 where
  pub walk : walk_at shown reached ≡ walk_to s node
  pub automaton : reached.automaton.now ≡ automaton_of s.guide.now
  pub state : reached.state ≡ node.state

-- by a walk to that board
pub reached_by : {W : Type 0} (shown : W → ShownWalk) (s : Search) (node : Node) (walk : Option W) (reached : Reached W)
    → IsWalkTo shown (walk_to s node) walk → walk ≡ Some reached.walk
    → reached.automaton.now ≡ automaton_of s.guide.now → reached.state ≡ node.state → IsReached shown s node reached
reached_by shown s node walk reached to some automaton state = record {
  walk = subst (λ o. IfSome o (λ w. shown w ≡ walk_to s node)) some to.0;
  automaton = automaton;
  state = state;
}

module _ {W : Type 0} (shown : W → ShownWalk) (s : Search) (node : Node) (reached : Reached W) (is : IsReached shown s node reached) where
  reached_guide : guide_at shown reached ≡ s.guide.now
  reached_guide = let bundle = ap (λ w. w.bundle) is.walk in let steps = ap (λ a. a.steps) is.automaton in λ i. record { bundle = bundle i; steps = steps i }

  -- the search from there is that below the node
  pub reached_counts : AreSame (prefix_counts_at shown node.prefix reached) (node_counts s node)
  reached_counts count n =
      let Says : ShownGuide → ShownWalk → ℕ → Type 0 = λ g w a. counted g (part_of node.prefix) node.prefix.ahead node.prefix.rank w.bound w.board a count n in (
        λ h. subst (λ g. Says g (walk_to s node) node.state) reached_guide
            (subst (λ w. Says (guide_at shown reached) w node.state) is.walk (subst (Says (guide_at shown reached) (walk_at shown reached)) is.state h)),
        λ h. subst (Says (guide_at shown reached) (walk_at shown reached)) (sym is.state)
            (subst (λ w. Says (guide_at shown reached) w node.state) (sym is.walk) (subst (λ g. Says g (walk_to s node) node.state) (sym reached_guide) h)),
      )

-- ---- the node after a move

-- what holds of the counts of the search of the board after a move
abbrev pub NextCounts : Search → Node → Count → Move → List ℕ → ℕ → Type 0
NextCounts s node count move next n =
    counted s.guide.now (part_of node.prefix) (next_ahead node.prefix.ahead) (next_rank node.prefix.ahead node.prefix.rank move) (node.bound - 1) next
    (next_at s.guide.now.steps node.state move) count n

-- a closed node
pub node_closed : (s : Search) (node : Node)
    → (IsOutside (part_of node.prefix) node.prefix.ahead node.prefix.rank ⊎ IsClosed s.guide.now.bundle node.board node.bound)
    → (count : Count) (n : ℕ) → node_counts s node count n ↔ (n ≡ 0)
node_closed s node (inl out) count n =
    part_outside s.guide.now (part_of node.prefix) node.board node.state count node.prefix.ahead node.prefix.rank node.bound out n
node_closed s node (inr closed) count n =
    part_closed s.guide.now (part_of node.prefix) node.board node.state count node.prefix.ahead node.prefix.rank node.bound closed n

-- where the automaton leaves the move out
pub child_out : (s : Search) (node : Node) (move : Move) → next_at s.guide.now.steps node.state move ≡ left_out
    → (count : Count) (n : ℕ) → child_counts_of s node move count n ↔ (n ≡ 0)
child_out s node move out count n =
    at_out (moved node.board move) (leaves_out s.guide.now.steps node.state move) (NextCounts s node count move)
    (eq-eqb (next_at s.guide.now.steps node.state move) left_out out) n

-- where the move leads to no board that is open
pub child_nowhere : (s : Search) (node : Node) (move : Move) → LeadsNowhere (walk_to s node) move
    → (count : Count) (n : ℕ) → child_counts_of s node move count n ↔ (n ≡ 0)
child_nowhere s node move none count n =
    at_nowhere s.guide.now (part_of node.prefix) count (next_ahead node.prefix.ahead) (next_rank node.prefix.ahead node.prefix.rank move) (node.bound - 1)
    (moved node.board move) (leaves_out s.guide.now.steps node.state move) (next_at s.guide.now.steps node.state move) none n

module _ (s : Search) (node child : Node) (move : Move) (next : List ℕ) (leads : moved node.board move ≡ Some next)
    (on : leaves_out s.guide.now.steps node.state move ≡ false)
    (board : child.board ≡ next) (state : child.state ≡ next_at s.guide.now.steps node.state move) (bound : child.bound + 1 ≡ node.bound)
    (part : part_of child.prefix ≡ part_of node.prefix) (less : child.prefix.ahead ≡ next_ahead node.prefix.ahead)
    (read : child.prefix.rank ≡ next_rank node.prefix.ahead node.prefix.rank move) where
  -- the search below it is that after the move
  pub child_same : AreSame (child_counts_of s node move) (node_counts s child)
  child_same count n =
      let g = s.guide.now in
      let to = next_at g.steps node.state move in
      let fewer : node.bound - 1 ≡ child.bound = omega arith in
      let p = part_of node.prefix in
      let a = next_ahead node.prefix.ahead in
      let m = next_rank node.prefix.ahead node.prefix.rank move in
      let at = at_child (moved node.board move) (leaves_out s.guide.now.steps node.state move) (NextCounts s node count move) next leads on n in
      let there : NextCounts s node count move next n → node_counts s child count n =
      λ h. subst (λ k. counted g k child.prefix.ahead child.prefix.rank child.bound child.board child.state count n) (sym part)
      (subst (λ k. counted g p k child.prefix.rank child.bound child.board child.state count n) (sym less)
      (subst (λ k. counted g p a k child.bound child.board child.state count n) (sym read)
      (subst (λ k. counted g p a m k child.board child.state count n) fewer
      (subst (λ k. counted g p a m (node.bound - 1) k child.state count n) (sym board)
      (subst (λ k. counted g p a m (node.bound - 1) next k count n) (sym state) h))))) in
      let back : node_counts s child count n → NextCounts s node count move next n =
      λ h. subst (λ k. counted g p a m (node.bound - 1) next k count n) state
      (subst (λ k. counted g p a m (node.bound - 1) k child.state count n) board
      (subst (λ k. counted g p a m k child.board child.state count n) (sym fewer)
      (subst (λ k. counted g p a k child.bound child.board child.state count n) read
      (subst (λ k. counted g p k child.prefix.rank child.bound child.board child.state count n) less
      (subst (λ k. counted g k child.prefix.ahead child.prefix.rank child.bound child.board child.state count n) part h))))) in
      (λ h. there (at.0 h), λ h. at.1 (back h))

  -- where it is closed, no board is expanded after the move
  pub child_closed : (IsOutside (part_of child.prefix) child.prefix.ahead child.prefix.rank ⊎ IsClosed s.guide.now.bundle child.board child.bound)
      → (count : Count) (n : ℕ) → child_counts_of s node move count n ↔ (n ≡ 0)
  child_closed closed count n =
      let same = child_same count n in
      let none = node_closed s child closed count n in
      (λ h. none.0 (same.0 h), λ e. same.1 (none.1 e))

-- ---- a node that is expanded

module _ (s : Search) (node : Node) (inside : IsInside (part_of node.prefix) node.prefix.ahead node.prefix.rank) (some : 1 ≤ node.bound)
    (whole : ¬ IsCutOff s.guide.now.bundle node.board node.bound) (far : ¬ IsGoal node.board) where
  -- the searches after its moves, in their order
  abbrev After : Move → Count → ℕ → Type 0
  After move count boards = child_counts_of s node move count boards

  abbrev Two : Count → ℕ → Type 0
  Two count boards = both_counts (After Left) (After Right) count boards

  abbrev Three : Count → ℕ → Type 0
  Three count boards = both_counts (After Down) Two count boards

  abbrev Four : Count → ℕ → Type 0
  Four count boards = both_counts (After Up) Three count boards

  opened_more : IsMore (node_counts s node) Four 1
  opened_more = record {
    to =
        λ n h. let open_ = (part_open s.guide.now (part_of node.prefix) node.board node.state node.prefix.ahead node.prefix.rank node.bound inside some
        whole far n).0 h in (open_.0, open_.2, open_.1);
    back = λ count n rest h e. subst (node_counts s node count) (sym e)
        (part_more s.guide.now (part_of node.prefix) node.board node.state count node.prefix.ahead node.prefix.rank node.bound inside some whole far rest h);
  }

  -- the nodes after its moves are added
  pub opened_adds : (old one two three new : List Node) → Adds s (After Up) 0 old one → Adds s (After Down) 0 one two
      → Adds s (After Left) 0 two three → Adds s (After Right) 0 three new
      → Adds s (node_counts s node) 1 old new
  opened_adds old one two three new a b c d =
      let last = adds_both s (After Left) (After Right) 0 0 two three new c d in
      let rest = adds_both s (After Down) Two 0 0 one two new b last in
      let all = adds_both s (After Up) Three 0 0 old one new a rest in
      adds_as s (node_counts s node) Four 0 1 1 old new opened_more refl all
