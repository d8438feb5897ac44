-- Counts of which one holds just where another holds of so many fewer, and the counts of lists of nodes.
use Rattle.std.proofs.Common.{◌≡◌, ℕ, ◌+◌, ◌↔◌, List, [], ◌∷◌, ◌++◌, refl, sym, ap, ◌∙◌, subst, append_assoc, arith}
use Rattle.std.proofs.lemmas.List.{append-nil}
use Rattle.std.proofs.lemmas.List.Elements.{All-nil, All-append, All-cons}
use Rattle.puz_search.specs.Frontiers.{Adds, IsMore, all_counts}
use Rattle.puz_search.specs.Nodes.{IsLed, node_counts}
use Rattle.puz_search.specs.Prefixes.{Count, at_least, both_counts, in_all, part_of}
use Rattle.puz_search.specs.declared.nodes.Node.{Node}
use Rattle.puz_search.specs.declared.searches.Search.{Search}
use Rattle.puz_search.proofs.FailLemmas.{part_none}

-- ---- counts

-- the same counts hold of both
abbrev pub AreSame : (Count → ℕ → Type 0) → (Count → ℕ → Type 0) → Type 0
AreSame One Other = (count : Count) (n : ℕ) → One count n ↔ Other count n

-- the same counts
pub more_same : (One Other : Count → ℕ → Type 0) → AreSame One Other → IsMore One Other 0
more_same One Other same = record {
  to = λ n h. (n, (same in_all n).0 h, omega arith);
  back = λ count n rest h e. let eq : rest ≡ n = omega arith in (same count n).1 (subst (Other count) eq h);
}

-- one after the other
pub more_then : (P Q R : Count → ℕ → Type 0) (x y z : ℕ) → z ≡ x + y → IsMore P Q x → IsMore Q R y → IsMore P R z
more_then P Q R x y z e one other = record {
  to = λ n h.
      let a = one.to n h in
      let b = other.to a.0 a.1 in
      let f : n ≡ a.0 + x = a.2 in
      let g : a.0 ≡ b.0 + y = b.2 in
      (b.0, b.1, omega arith);
  back = λ count n rest h f. one.back count n (rest + y) (other.back count (rest + y) rest h refl) (omega arith);
}

-- one beside the other
pub more_both : (P P2 Q Q2 : Count → ℕ → Type 0) (x y z : ℕ) → z ≡ x + y → IsMore P P2 x → IsMore Q Q2 y
    → IsMore (both_counts P Q) (both_counts P2 Q2) z
more_both P P2 Q Q2 x y z e one other = record {
  to = λ n h.
      let a = one.to h.0 h.2 in
      let b = other.to h.1 h.3 in
      let f : h.0 ≡ a.0 + x = a.2 in
      let g : h.1 ≡ b.0 + y = b.2 in
      let k : n ≡ h.0 + h.1 = h.4 in
      (a.0 + b.0, (a.0, b.0, a.1, b.1, refl), omega arith);
  back = λ count n rest h f.
      let k : rest ≡ h.0 + h.1 = h.4 in
      (h.0 + x, h.1 + y, one.back count (h.0 + x) h.0 h.2 refl, other.back count (h.1 + y) h.1 h.3 refl, omega arith);
}

-- ---- lists of nodes

module _ (s : Search) where
  -- of one node
  pub all_one : (node : Node) → AreSame (node_counts s node) (all_counts s (node ∷ []))
  all_one node count n = (
    λ h. (n, 0, h, refl, omega arith),
    λ h.
        let f : h.1 ≡ 0 = h.3 in
        let g : n ≡ h.0 + h.1 = h.4 in
        let eq : h.0 ≡ n = omega arith in
        subst (node_counts s node count) eq h.2,
  )

  -- of two lists
  pub all_append : (xs ys : List Node) → AreSame (both_counts (all_counts s xs) (all_counts s ys)) (all_counts s (xs ++ ys))
  all_append [] ys count n = (
    λ h.
        let f : h.0 ≡ 0 = h.2 in
        let g : n ≡ h.0 + h.1 = h.4 in
        let eq : h.1 ≡ n = omega arith in
        subst (all_counts s ys count) eq h.3,
    λ h. (0, n, refl, h, omega arith),
  )
  all_append (x ∷ xs) ys count n = (
    λ h.
        let first : h.0 ≡ h.2.0 + h.2.1 = h.2.4 in
        let both : n ≡ h.0 + h.1 = h.4 in
        let rest = (all_append xs ys count (h.2.1 + h.1)).0 (h.2.1, h.1, h.2.3, h.3, refl) in
        (h.2.0, h.2.1 + h.1, h.2.2, rest, omega arith),
    λ h.
        let both : n ≡ h.0 + h.1 = h.4 in
        let k = (all_append xs ys count h.1).1 h.3 in
        let f : h.1 ≡ k.0 + k.1 = k.4 in
        (h.0 + k.0, k.1, (h.0, k.0, h.2, k.2, refl), k.3, omega arith),
  )

  -- of a list and one node more
  pub all_push : (xs : List Node) (node : Node) → AreSame (all_counts s (xs ++ node ∷ [])) (both_counts (all_counts s xs) (node_counts s node))
  all_push xs node count n = (
    λ h. let k = (all_append xs (node ∷ []) count n).1 h in (k.0, k.1, k.2, (all_one node count k.1).1 k.3, k.4),
    λ h. (all_append xs (node ∷ []) count n).0 (h.0, h.1, h.2, (all_one node count h.1).0 h.3, h.4),
  )

  -- 0 boards are always some
  pub all_none : (xs : List Node) → all_counts s xs at_least 0
  all_none [] = refl
  all_none (x ∷ xs) = (0, 0, part_none s.guide.now (part_of x.prefix) x.board x.state x.prefix.ahead x.prefix.rank x.bound, all_none xs, refl)

  -- ---- nodes that are added

  -- none, for a part that expands nothing
  pub adds_none : (Part : Count → ℕ → Type 0) (old : List Node) → ((count : Count) (n : ℕ) → Part count n ↔ (n ≡ 0)) → Adds s Part 0 old old
  adds_none Part old none = record {
    added = [];
    items = sym (append-nil old);
    counts = more_same Part (all_counts s []) none;
    led = All-nil (IsLed s);
  }

  -- the node of a part
  pub adds_one : (Part : Count → ℕ → Type 0) (old : List Node) (node : Node) → AreSame Part (node_counts s node) → IsLed s node
      → Adds s Part 0 old (old ++ node ∷ [])
  adds_one Part old node same led = record {
    added = node ∷ [];
    items = refl;
    counts = more_then Part (node_counts s node) (all_counts s (node ∷ [])) 0 0 0 (omega arith) (more_same Part (node_counts s node) same)
        (more_same (node_counts s node) (all_counts s (node ∷ [])) (all_one node));
    led = All-cons (IsLed s) node [] led (All-nil (IsLed s));
  }

  -- those of two parts
  pub adds_both : (P Q : Count → ℕ → Type 0) (x y : ℕ) (old mid new : List Node) → Adds s P x old mid → Adds s Q y mid new
      → Adds s (both_counts P Q) (x + y) old new
  adds_both P Q x y old mid new one other = record {
    added = one.added ++ other.added;
    items = other.items ∙ ap (λ xs. xs ++ other.added) one.items ∙ append_assoc old one.added other.added;
    counts =
        let first = all_counts s one.added in
        let last = all_counts s other.added in
        more_then (both_counts P Q) (both_counts first last) (all_counts s (one.added ++ other.added)) (x + y) 0 (x + y) (omega arith)
        (more_both P first Q last x y (x + y) refl one.counts other.counts)
        (more_same (both_counts first last) (all_counts s (one.added ++ other.added)) (all_append one.added other.added));
    led = All-append (IsLed s) one.added other.added one.led other.led;
  }

  -- those of a part, for another of which so many boards were expanded
  pub adds_as : (P Q : Count → ℕ → Type 0) (x y z : ℕ) (old new : List Node) → IsMore P Q y → z ≡ x + y → Adds s Q x old new → Adds s P z old new
  adds_as P Q x y z old new same sum is = record {
    added = is.added;
    items = is.items;
    counts = more_then P Q (all_counts s is.added) y x z (omega arith) same is.counts;
    led = is.led;
  }
