-- What the answers of parts say of the whole search.
use Rattle.std.proofs.Common.{◌≡◌, ℕ, ◌<◌, ◌≤◌, ◌↔◌, List, Option, None, Some, refl, sym, ap, subst, arith}
use Rattle.puz_board.specs.Boards.{IsBoard, IsBoardOf}
use Rattle.puz_board.proofs.BoardLemmas.{side_of-board}
use Rattle.puz_walk.specs.Walks.{IsClosed}
use Rattle.puz_search.specs.Answers.{IsAnswer, IsAnswerOfPart, IsAnswerTo}
use Rattle.puz_search.specs.Guides.{IsGuide}
use Rattle.puz_search.specs.Nodes.{IsFirst, IsLed, IsPartAnswer, node_counts, search_counts, solves_below, solves_first}
use Rattle.move_strings.specs.BoundParts.{ShownPart, letters_of}
use Rattle.puz_search.specs.Prefixes.{Count, IsPrefixOf, IsRead, at_least, counted, in_all, only_part, part_of, prefix_counts}
use Rattle.puz_search.specs.Searches.{Fails, SearchFails, SearchOfPartFails}
use Rattle.puz_search.specs.declared.answers.SearchAnswer.{SearchAnswer}
use Rattle.puz_search.specs.declared.answers.SearchAnswer.TheVariants.{Refuted, Solved, Spent}
use Rattle.puz_search.specs.declared.nodes.Node.{Node}
use Rattle.puz_search.specs.declared.prefixes.Prefix.{Prefix}
use Rattle.puz_search.specs.declared.searches.Search.{Search}
use Rattle.puz_search.proofs.FailLemmas.{fails_bounds, part_bounds, part_closed, part_here, part_low, part_once}
use Rattle.puz_search.proofs.NodeLemmas.{node_answer}
use Rattle.puz_search.proofs.TrailLemmas.{trail_solves}

-- the first board is a board
is_board : (s : Search) → IsBoard s.start.now.board
is_board s = subst (λ n. IsBoardOf n s.start.now.board) (sym (side_of-board s.guide.now.bundle.side s.start.now.board s.one_side)) s.one_side

-- the answer of the whole search
abbrev pub IsWhole : Search → ℕ → SearchAnswer → Type 0
IsWhole s budget answer = IsPartAnswer (search_counts s) (solves_first s) budget answer

-- what the search below the first node answers is that
pub first_whole : (s : Search) (node : Node) → IsFirst s node → IsLed s node → (budget : ℕ) (answer : SearchAnswer)
    → IsPartAnswer (node_counts s node) (solves_below node) budget answer
    → IsWhole s budget answer
first_whole s node first led budget answer part =
    let Says : Prefix → List ℕ → ℕ → ℕ → Type 0 = λ x b state r. IsPartAnswer (prefix_counts s.guide.now x r b state) (solves_first s) budget answer in
    let is : Says node.prefix node.board node.state node.bound = node_answer s node led (node_counts s node) budget answer part in
    subst (Says s.prefix s.start.now.board 0) first.bound (subst (λ a. Says s.prefix s.start.now.board a node.bound) first.state
    (subst (λ b. Says s.prefix b node.state node.bound) first.board (subst (λ x. Says x node.board node.state node.bound) first.prefix is)))

-- where the first board is closed, it is refuted with 0 boards
pub whole_closed : (s : Search) (budget : ℕ) → IsClosed s.guide.now.bundle s.start.now.board s.bound → IsWhole s budget (Refuted 0)
whole_closed s budget closed = (
  λ count. (part_closed s.guide.now (part_of s.prefix) s.start.now.board 0 count s.prefix.ahead s.prefix.rank s.bound closed 0).1 refl,
  (omega arith),
)

-- is refuted where the search fails within the budget
whole_within : (s : Search) (budget boards : ℕ) → search_counts s in_all boards → boards ≤ budget → (answer : SearchAnswer) → IsWhole s budget answer
    → answer ≡ Refuted boards
whole_within s budget boards fails low (Refuted other) part =
    ap Refuted (part_once s.guide.now (part_of s.prefix) s.prefix.ahead s.prefix.rank s.bound s.start.now.board 0 other boards (part.0 in_all) fails)
whole_within s budget boards fails low (Solved letters) part = absurd (part.1 boards fails)
whole_within s budget boards fails low Spent part =
    let more : budget < part.0 = part.2 in
    let few : part.0 ≤ boards =
    part_low s.guide.now (part_of s.prefix) s.prefix.ahead s.prefix.rank s.bound s.start.now.board 0 part.0 boards part.1 fails in
    absurd (omega arith)

-- ---- of all moves

module _ (s : Search) (is : IsGuide s.guide.now) (read : IsRead s.prefix) (budget : ℕ) where
  all_same : (count : Count) (n : ℕ) → search_counts s count n ↔ counted s.guide.now only_part 0 0 s.bound s.start.now.board 0 count n
  all_same count n = part_here s.guide.now (part_of s.prefix) s.start.now.board 0 count s.prefix.ahead s.prefix.rank s.bound read.0 (λ e. read.1) n

  -- says what it is to say
  all_answer : (answer : SearchAnswer) → IsWhole s budget answer → IsAnswer s.guide.now s.start.now.board s.bound budget answer
  all_answer (Refuted boards) part =
      let fails = (all_same in_all boards).0 (part.0 in_all) in
      (fails_bounds s.guide.now is s.bound s.start.now.board boards s.one_side fails, fails, part.1)
  all_answer (Solved letters) part = trail_solves s.start.now.board s.bound letters.items (is_board s) s.small part.0
  all_answer Spent part = (part.0, (all_same at_least part.0).0 part.1, part.2)

  -- where the search of all moves fails within the budget, the whole search is refuted with its count of boards
  all_within : (boards : ℕ) → Fails s.guide.now s.bound s.start.now.board 0 boards → boards ≤ budget → (answer : SearchAnswer) → IsWhole s budget answer
      → answer ≡ Refuted boards
  all_within boards fails low answer part = whole_within s budget boards ((all_same in_all boards).1 fails) low answer part

-- ---- of a part

module _ (s : Search) (is : IsGuide s.guide.now) (p : ShownPart) (of_part : part_of s.prefix ≡ p) (ahead : s.prefix.ahead ≡ letters_of p)
    (rank : s.prefix.rank ≡ 0) (budget : ℕ) where
  part_same : (count : Count) (n : ℕ) → search_counts s count n ↔ counted s.guide.now p (letters_of p) 0 s.bound s.start.now.board 0 count n
  part_same count n = (
    λ h. subst (λ k. counted s.guide.now p (letters_of p) k s.bound s.start.now.board 0 count n) rank
        (subst (λ k. counted s.guide.now p k s.prefix.rank s.bound s.start.now.board 0 count n) ahead
        (subst (λ k. counted s.guide.now k s.prefix.ahead s.prefix.rank s.bound s.start.now.board 0 count n) of_part h)),
    λ h. subst (λ k. counted s.guide.now k s.prefix.ahead s.prefix.rank s.bound s.start.now.board 0 count n) (sym of_part)
        (subst (λ k. counted s.guide.now p k s.prefix.rank s.bound s.start.now.board 0 count n) (sym ahead)
        (subst (λ k. counted s.guide.now p (letters_of p) k s.bound s.start.now.board 0 count n) (sym rank) h)),
  )

  -- the answer of a whole search among a part's moves is one of the part
  part_answer : (answer : SearchAnswer) → IsWhole s budget answer → IsAnswerOfPart s.guide.now p s.start.now.board s.bound budget answer
  part_answer (Refuted boards) part =
      let fails = (part_same in_all boards).0 (part.0 in_all) in
      (part_bounds s.guide.now is p s.bound s.start.now.board boards s.one_side fails, fails, part.1)
  part_answer (Solved letters) part = trail_solves s.start.now.board s.bound letters.items (is_board s) s.small part.0
  part_answer Spent part = (part.0, (part_same at_least part.0).0 part.1, part.2)

  -- where the search of the part fails within the budget, the whole search is refuted with its count of boards
  part_within : (boards : ℕ) → SearchOfPartFails s.guide.now p s.bound s.start.now.board boards → boards ≤ budget → (answer : SearchAnswer)
      → IsWhole s budget answer → answer ≡ Refuted boards
  part_within boards fails low answer part = whole_within s budget boards ((part_same in_all boards).1 fails) low answer part

-- ---- of either

module _ (s : Search) (is : IsGuide s.guide.now) (budget : ℕ) where
  -- the answer of a whole search is one to its claim
  pub claim_answer : (part : Option ShownPart) → IsPrefixOf s.prefix part → (answer : SearchAnswer) → IsWhole s budget answer
      → IsAnswerTo s.guide.now part s.start.now.board s.bound budget answer
  claim_answer None of answer whole = all_answer s is of budget answer whole
  claim_answer (Some p) of answer whole = part_answer s is p of.0 of.1 of.2 budget answer whole

  -- where the search of the claim fails within the budget, the whole search is refuted with its count of boards
  pub claim_within : (part : Option ShownPart) → IsPrefixOf s.prefix part → (boards : ℕ) → SearchFails s.guide.now part s.bound s.start.now.board boards
      → boards ≤ budget → (answer : SearchAnswer) → IsWhole s budget answer
      → answer ≡ Refuted boards
  claim_within None of boards fails low answer whole = all_within s is of budget boards fails low answer whole
  claim_within (Some p) of boards fails low answer whole = part_within s is p of.0 of.1 of.2 budget boards fails low answer whole
