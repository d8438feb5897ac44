-- What the searches below the nodes of a frontier answer in turn.
use Rattle.std.proofs.Common.{◌≡◌, ℕ, suc, ◌+◌, ◌<◌, ◌≤◌, Bool, true, false, cond, List, [], ◌∷◌, ◌++◌, length, take, drop, get_or, refl, sym, ap, ◌∙◌, subst}
use Rattle.std.proofs.Common.{take-append-drop, arith}
use Rattle.std.proofs.Math.Seq.{drop-cons}
use Rattle.std.proofs.lemmas.List.{take_more}
use Rattle.std.specs.List.{All}
use Rattle.std.proofs.lemmas.List.Elements.{All-cons, All-nil}
use Rattle.puz_search.specs.Frontiers.{Adds, IsFrontier, IsMore, all_counts}
use Rattle.puz_search.specs.Nodes.{IsFirst, IsLed, IsPartAnswer, node_counts, search_counts, solves_first}
use Rattle.puz_search.specs.Prefixes.{Count, at_least, both_counts, in_all, prefix_counts}
use Rattle.puz_search.specs.declared.answers.SearchAnswer.{SearchAnswer}
use Rattle.puz_search.specs.declared.answers.SearchAnswer.TheVariants.{Refuted, Spent}
use Rattle.puz_search.specs.declared.frontiers.Frontier.{Frontier}
use Rattle.puz_search.specs.declared.nodes.Node.{Node}
use Rattle.puz_search.specs.declared.prefixes.Prefix.{Prefix}
use Rattle.puz_search.specs.declared.searches.Search.{Search}
use Rattle.puz_search.proofs.CountLemmas.{adds_as, adds_both, all_append, all_none, all_one, all_push, more_same, more_then}

-- a list up to an element, and that one
pub push_at : (xs : List Node) (n : ℕ) (x : Node) → n < length xs → x ≡ get_or xs n x → take (n + 1) xs ≡ take n xs ++ x ∷ []
push_at xs n x low e = take_more xs n x low ∙ ap (λ y. take n xs ++ y ∷ []) (sym e)

-- up to an element, and from it on
pub split_at : (xs : List Node) (n : ℕ) (x : Node) → n < length xs → x ≡ get_or xs n x → take n xs ++ x ∷ drop (suc n) xs ≡ xs
split_at xs n x low e = ap (λ y. take n xs ++ y ∷ drop (suc n) xs) e ∙ ap (λ ys. take n xs ++ ys) (sym (drop-cons xs n x low)) ∙ take-append-drop n xs

module _ (s : Search) where
  -- one node more failed
  pub settled_more : (xs : List Node) (node : Node) (m n k : ℕ) → ((count : Count) → all_counts s xs count m)
      → ((count : Count) → node_counts s node count n) → k ≡ m + n
      → (count : Count) → all_counts s (xs ++ node ∷ []) count k
  settled_more xs node m n k h g e count = (all_push s xs node count k).1 (m, n, h count, g count, e)

  -- where the budget ends at a node, behind others that fail, all nodes have more boards
  pub spent_at : (xs : List Node) (node : Node) (ys : List Node) (m left budget : ℕ) → all_counts s xs at_least m → budget ≡ m + left
      → (boards : ℕ) → node_counts s node at_least boards → left < boards
      → IsPartAnswer (all_counts s (xs ++ node ∷ ys)) (solves_first s) budget Spent
  spent_at xs node ys m left budget before e boards has more =
      let here : all_counts s (node ∷ ys) at_least (boards + 0) = (boards, 0, has, all_none s ys, refl) in
      (m + (boards + 0), (all_append s xs (node ∷ ys) at_least (m + (boards + 0))).0 (m, boards + 0, before, here, refl), omega arith)

  -- the same of one of the nodes
  pub spent_in : (xs : List Node) (n : ℕ) (node : Node) → n < length xs → node ≡ get_or xs n node → (m left budget : ℕ)
      → all_counts s (take n xs) at_least m → budget ≡ m + left
      → (boards : ℕ) → node_counts s node at_least boards → left < boards → IsPartAnswer (all_counts s xs) (solves_first s) budget Spent
  spent_in xs n node low is m left budget before e boards has more =
      subst (λ ys. IsPartAnswer (all_counts s ys) (solves_first s) budget Spent) (split_at xs n node low is)
      (spent_at (take n xs) node (drop (suc n) xs) m left budget before e boards has more)

  -- what is answered below the nodes of a frontier, with what the boards expanded on the way leave of the budget
  module _ (frontier : Frontier) (is : IsFrontier s frontier) (budget : ℕ) where
    abbrev Below : ℕ → SearchAnswer → Type 0
    Below left answer = IsPartAnswer (all_counts s frontier.nodes.items) (solves_first s) left answer

    abbrev Whole : SearchAnswer → Type 0
    Whole answer = IsPartAnswer (search_counts s) (solves_first s) budget answer

    -- they are too many
    pub spent_before : budget < frontier.expanded → Whole Spent
    spent_before more = (frontier.expanded, is.counts.back at_least frontier.expanded 0 (all_none s frontier.nodes.items) (omega arith), more)

    -- the budget ends below the nodes
    pub spent_below : (left : ℕ) → budget ≡ left + frontier.expanded → Below left Spent → Whole Spent
    spent_below left e part =
        let more : left < part.0 = part.2 in
        (part.0 + frontier.expanded, is.counts.back at_least (part.0 + frontier.expanded) part.0 part.1 refl, omega arith)

    -- all of them are refuted
    pub refuted_below : (left boards : ℕ) → budget ≡ left + frontier.expanded → Below left (Refuted boards)
        → Whole (Refuted (frontier.expanded + boards))
    refuted_below left boards e part =
        let few : boards ≤ left = part.1 in
        (λ count. is.counts.back count (frontier.expanded + boards) boards (part.0 count) (omega arith), omega arith)

module _ (s : Search) where
  -- where a node has a solution not all nodes fail
  solved_at : (xs : List Node) (node : Node) (ys : List Node) → ((boards : ℕ) → ¬ node_counts s node in_all boards) → (boards : ℕ)
      → ¬ all_counts s (xs ++ node ∷ ys) in_all boards
  solved_at xs node ys not boards h = let both = (all_append s xs (node ∷ ys) in_all boards).1 h in not both.3.0 both.3.2

  -- where the search below one of the nodes fails with no count, those below all nodes don't fail in turn
  pub solved_in : (xs : List Node) (n : ℕ) (node : Node) → n < length xs → node ≡ get_or xs n node → ((boards : ℕ) → ¬ node_counts s node in_all boards)
      → (boards : ℕ) → ¬ all_counts s xs in_all boards
  solved_in xs n node low is not =
      subst (λ ys. (boards : ℕ) → ¬ all_counts s ys in_all boards) (split_at xs n node low is) (solved_at (take n xs) node (drop (suc n) xs) not)

-- ---- levels

-- nothing is added where a board isn't expanded
pub add_none : (x : ℕ) (b : Bool) → b ≡ false → x ≡ x + cond b 1 0
add_none x true e = cc
add_none x false e = omega arith

module _ (s : Search) where
  -- one node more of a level
  pub level_more : (ys : List Node) (node : Node) (b : Bool) (x z : ℕ) → z ≡ x + cond b 1 0 → (mid new : List Node)
      → Adds s (all_counts s ys) x [] mid
      → Adds s (node_counts s node) (cond b 1 0) mid new → Adds s (all_counts s (ys ++ node ∷ [])) z [] new
  level_more ys node b x z e mid new before one =
      let One = all_counts s (ys ++ node ∷ []) in
      let Other = both_counts (all_counts s ys) (node_counts s node) in
      adds_as s One Other (x + cond b 1 0) 0 z [] new (more_same One Other (all_push s ys node)) (omega arith)
      (adds_both s (all_counts s ys) (node_counts s node) x (cond b 1 0) [] mid new before one)

  -- the first level is the node of the first board
  pub frontier_first : (node : Node) (frontier : Frontier) → IsFirst s node → IsLed s node → frontier.nodes.items ≡ node ∷ [] → frontier.expanded ≡ 0
      → IsFrontier s frontier
  frontier_first node frontier first led items none =
      let Says : Prefix → List ℕ → ℕ → ℕ → Type 0 = λ x b state r. IsMore (prefix_counts s.guide.now x r b state) (all_counts s (node ∷ [])) 0 in
      let counts : Says s.prefix s.start.now.board 0 s.bound =
      subst (Says s.prefix s.start.now.board 0) first.bound (subst (λ a. Says s.prefix s.start.now.board a node.bound) first.state
      (subst (λ b. Says s.prefix b node.state node.bound) first.board (subst (λ x. Says x node.board node.state node.bound) first.prefix
      (more_same (node_counts s node) (all_counts s (node ∷ [])) (all_one s node))))) in
      record {
        counts =
            subst (IsMore (search_counts s) (all_counts s frontier.nodes.items)) (sym none)
            (subst (λ xs. IsMore (search_counts s) (all_counts s xs) 0) (sym items) counts);
        led = subst (All (IsLed s)) (sym items) (All-cons (IsLed s) node [] led (All-nil (IsLed s)));
      }

  -- and the next level stands for the search as the one before does
  pub frontier_next : (before after : Frontier) (x : ℕ) → after.expanded ≡ before.expanded + x → IsFrontier s before
      → Adds s (all_counts s before.nodes.items) x [] after.nodes.items → IsFrontier s after
  frontier_next before after x e is adds =
      let added : after.nodes.items ≡ adds.added = adds.items in
      record {
        counts = subst (λ xs. IsMore (search_counts s) (all_counts s xs) after.expanded) (sym added)
            (more_then (search_counts s) (all_counts s before.nodes.items) (all_counts s adds.added) before.expanded x after.expanded e is.counts adds.counts);
        led = subst (All (IsLed s)) (sym added) adds.led;
      }
