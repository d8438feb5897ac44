-- What a move does to the sum of a set: only the member whose pattern has the tile says another count.
use Rattle.std.proofs.Common.{◌≡◌, ℕ, zero, suc, ◌+◌, ◌*◌, ◌<◌, ◌⊎◌, Bool, true, false, cond, List, [], ◌∷◌, length, Some, inl, inr, refl, sym, ◌∙◌}
use Rattle.std.proofs.Common.{ap, subst, arith}
use Rattle.std.specs.Prelude.{Any, MatchBool, slice_get}
use Rattle.std.specs.List.{AllByRecursion}
use Rattle.std.proofs.lemmas.Bool.{false_from_ne_true}
use Rattle.puz_board.specs.Costs.{IsLeastCost, has}
use Rattle.puz_board.specs.Transposing.{transposed_cell, transposed_tiles}
use Rattle.puz_board.specs.declared.moves.Move.{Move}
use Rattle.puz_board.proofs.TransposeLemmas.{transposed_tiles-are}
use Rattle.pat_place.specs.Patterns.{IsPattern}
use Rattle.tab_rule.specs.FoldedTables.{FoldedTableSays}
use Rattle.tab_rule.specs.Counts.{TableSays}
use Rattle.tab_rule.specs.declared.tables.Count.TheVariants.{Finite}
use Rattle.pat_place.specs.Placements.{placement_of}
use Rattle.edge_words.specs.Indexes.{index_in}
use Rattle.edge_words.specs.Spots.{IsStepOf, index_on}
use Rattle.edge_words.specs.Words.{RisesOrFalls}
use Rattle.edge_words.proofs.SpotLemmas.{cost_still, placement_still}
use Rattle.set_sum.specs.Members.{MemberSays, board_for, pattern_of, patterns_of_set, table_of, table_pattern}
use Rattle.set_sum.specs.Parts.{PartSays, ShownPart}
use Rattle.set_sum.specs.Sums.{AddUpTo, AreDisjoint, Overlap}
use Rattle.set_sum.specs.declared.members.Member.{Member}
use Rattle.puz_walk.specs.StoredWords.{cell_for}
use Rattle.puz_walk.specs.WordSpots.{Shifts}
use Rattle.puz_walk.proofs.TurnLemmas.{step_for}

-- ---- what full tables say

full_says : (part : ShownPart) (b : List ℕ) (d : ℕ) → part.is_folded ≡ false → PartSays part b (Finite d) → IsLeastCost part.tiles b d
full_says part b d full says = subst (λ f. MatchBool f (FoldedTableSays part.tiles b (Finite d)) (TableSays part.tiles b (Finite d))) full says

says_full : (part : ShownPart) (b : List ℕ) (d : ℕ) → part.is_folded ≡ false → IsLeastCost part.tiles b d → PartSays part b (Finite d)
says_full part b d full least = subst (λ f. MatchBool f (FoldedTableSays part.tiles b (Finite d)) (TableSays part.tiles b (Finite d))) (sym full) least

-- ---- the tile of a member's own pattern

own_has : (n : ℕ) (tiles : List ℕ) (tile : ℕ) → tile < n * n → (is_transposed : Bool)
    → has (cond is_transposed (transposed_tiles n tiles) tiles) tile ≡ has tiles (cond is_transposed (transposed_cell n tile) tile)
own_has n tiles tile low true = transposed_tiles-are n tiles tile low
own_has n tiles tile low false = refl

-- a member whose table has a pattern of side n, and isn't folded
abbrev pub IsFull : ℕ → List ShownPart → Member → Type 0
IsFull n tables m = IsPattern (record { side = n; tiles = table_pattern tables m }) × ((table_of tables m).is_folded ≡ false)

module _ (n : ℕ) (tables : List ShownPart) (tile : ℕ) (low : tile < n * n) where
  -- whether a member's table has the tile that it looks up
  abbrev pub takes : Member → Bool
  takes m = has (table_pattern tables m) (cell_for n m tile)

  has-pattern_of : (m : Member) → has (pattern_of n tables m) tile ≡ takes m
  has-pattern_of m = own_has n (table_pattern tables m) tile low m.is_transposed

  -- of two members whose patterns are disjoint only one takes the tile
  one_takes : (m : Member) (ms : List Member) (k : ℕ) (o : Member) → ¬ Any (Overlap (pattern_of n tables m)) (patterns_of_set n tables ms)
      → slice_get ms k ≡ Some o → takes m ≡ true → takes o ≡ false
  one_takes m ms k o apart there one =
      false_from_ne_true (takes o) (λ other. apart (at_place ms k there (tile, has-pattern_of m ∙ one, has-pattern_of o ∙ other)))
    where
      at_place : (xs : List Member) (i : ℕ) → slice_get xs i ≡ Some o → Overlap (pattern_of n tables m) (pattern_of n tables o)
          → Any (Overlap (pattern_of n tables m)) (patterns_of_set n tables xs)
      at_place [] i is h = absurd (let e : _ = is in cc)
      at_place (x ∷ xs) zero is h = (0, pattern_of n tables o, omega arith, ap (pattern_of n tables) (let e : Some x ≡ Some o = is in cc), h)
      at_place (x ∷ xs) (suc i) is h =
          let rest = at_place xs i is h in
          (suc rest.0, rest.1, let l : rest.0 < length (patterns_of_set n tables xs) = rest.2 in omega arith, rest.3, rest.4)

  -- a member of the set is the one that takes the tile, or doesn't take it
  pub owner_or_not : (ms : List Member) → AreDisjoint (patterns_of_set n tables ms) → (k : ℕ) (o : Member) → slice_get ms k ≡ Some o → takes o ≡ true
      → (j : ℕ) (m : Member) → slice_get ms j ≡ Some m → (m ≡ o) ⊎ (takes m ≡ false)
  owner_or_not [] apart k o there one j m here = absurd (let e : _ = here in cc)
  owner_or_not (x ∷ xs) apart zero o there one zero m here = inl (let e : Some x ≡ Some o = there in let f : Some x ≡ Some m = here in cc)
  owner_or_not (x ∷ xs) apart zero o there one (suc j) m here =
      let e : o ≡ x = (let f : Some x ≡ Some o = there in cc) in
      inr (one_takes x xs j m (λ h. apart (inl h)) here (subst (λ y. takes y ≡ true) e one))
  owner_or_not (x ∷ xs) apart (suc k) o there one zero m here =
      let e : x ≡ m = (let f : Some x ≡ Some m = here in cc) in
      inr (false_from_ne_true (takes m) (λ h. absurd (let no = one_takes x xs k o (λ h. apart (inl h)) there (subst (λ y. takes y ≡ true) (sym e) h) in cc)))
  owner_or_not (x ∷ xs) apart (suc k) o there one (suc j) m here = owner_or_not xs (λ h. apart (inr h)) k o there one j m here

  -- ---- the sum

  -- members of a kind, which say the same number of both boards where they don't take the tile
  module _ (P : Member → Type 0) (b next : List ℕ) (still : (m : Member) → P m → takes m ≡ false → (d : ℕ) → MemberSays tables m b (Finite d)
      → MemberSays tables m next (Finite d)) where
    -- the sum of members that don't take the tile stays the same by the tile's move
    pub sum_still : (ms : List Member) → AllByRecursion P ms → AllByRecursion (λ m. takes m ≡ false) ms → (d : ℕ) → AddUpTo tables ms b d
        → AddUpTo tables ms next d
    sum_still [] all none d sum = sum
    sum_still (m ∷ ms) all none d sum = (sum.0, sum.1, still m all.0 none.0 sum.0 sum.2, sum_still ms all.1 none.1 sum.1 sum.3, sum.4)

    others : (m : Member) (ms : List Member) → ¬ Any (Overlap (pattern_of n tables m)) (patterns_of_set n tables ms) → takes m ≡ true
        → AllByRecursion (λ o. takes o ≡ false) ms
    others m [] apart one = tt
    others m (x ∷ xs) apart one = (
      one_takes m (x ∷ xs) 0 x apart refl one,
      others m xs (λ h. apart (suc h.0, h.1, let l : h.0 < length (patterns_of_set n tables xs) = h.2 in omega arith, h.3, h.4)) one,
    )

    -- what a move does to the number of the member that takes the tile, it does to the sum
    module _ (o : Member) (one : takes o ≡ true) (R : ℕ → ℕ → Type 0) (more : (d e k : ℕ) → R d e → R (k + d) (k + e))
        (moves : (d : ℕ) → MemberSays tables o b (Finite d) → (e : ℕ) × MemberSays tables o next (Finite e) × R d e) where
      more_behind : (d e k sum : ℕ) → R d e → sum ≡ d + k → R sum (e + k)
      more_behind d e k sum is adds =
          subst (λ x. R x (e + k)) (let q : k + d ≡ sum = omega arith in q) (subst (R (k + d)) (let q : k + e ≡ e + k = omega arith in q) (more d e k is))

      -- what a move does to the number of the member that takes the tile, it does to the sum of a set of disjoint patterns
      pub sum_moves : (ms : List Member) → AllByRecursion P ms → AreDisjoint (patterns_of_set n tables ms) → (k : ℕ) → slice_get ms k ≡ Some o
          → (d : ℕ) → AddUpTo tables ms b d → (e : ℕ) × AddUpTo tables ms next e × R d e
      sum_moves [] all apart k there d sum = absurd (let e : _ = there in cc)
      sum_moves (m ∷ ms) all apart zero there d sum =
          let same : o ≡ m = (let e : Some m ≡ Some o = there in cc) in
          let now = moves sum.0 (subst (λ x. MemberSays tables x b (Finite sum.0)) (sym same) sum.2) in
          let rest = sum_still ms all.1 (others m ms (λ h. apart (inl h)) (subst (λ x. takes x ≡ true) same one)) sum.1 sum.3 in (
            now.0 + sum.1,
            (now.0, sum.1, subst (λ x. MemberSays tables x next (Finite now.0)) same now.1, rest, refl),
            more_behind sum.0 now.0 sum.1 d now.2 sum.4,
          )
      sum_moves (m ∷ ms) all apart (suc k) there d sum =
          let none : takes m ≡ false = false_from_ne_true (takes m) (λ h. absurd (let no = one_takes m ms k o (λ h. apart (inl h)) there h in cc)) in
          let rest = sum_moves ms all.1 (λ h. apart (inr h)) k there sum.1 sum.3 in (
            sum.0 + rest.0,
            (sum.0, rest.0, still m all.0 none sum.0 sum.2, rest.1, refl),
            subst (λ x. R x (sum.0 + rest.0)) (sym sum.4) (more sum.1 rest.0 sum.0 rest.2),
          )

-- a sum shifts as one of its parts does
pub shift_more : (rises : Bool) (d e k : ℕ) → Shifts (Some rises) d e → Shifts (Some rises) (k + d) (k + e)
shift_more true d e k is = let h : e ≡ d + 1 = is in let g : k + e ≡ k + d + 1 = omega arith in g
shift_more false d e k is = let h : d ≡ e + 1 = is in let g : k + d ≡ k + e + 1 = omega arith in g

-- ---- what a member says

module _ (n : ℕ) (move : Move) (b next : List ℕ) (tile from to : ℕ) (step : IsStepOf n move b next tile from to) (tables : List ShownPart) (m : Member)
    (pat : IsPattern (record { side = n; tiles = table_pattern tables m })) where
  -- a member whose table isn't folded says the same number after a move of a tile that its pattern hasn't
  pub member_still : (table_of tables m).is_folded ≡ false → has (table_pattern tables m) (cell_for n m tile) ≡ false → (d : ℕ)
      → MemberSays tables m b (Finite d) → MemberSays tables m next (Finite d)
  member_still full none d says =
      says_full (table_of tables m) (board_for m next) d full
      (cost_still (record { side = n; tiles = table_pattern tables m }) pat _ (board_for m b) (board_for m next) (cell_for n m tile)
      (cell_for n m from) (cell_for n m to)
      (step_for n move b next tile from to step m) none d (full_says (table_of tables m) (board_for m b) d full says))

  -- the placement of a member stays the same by a move of a tile that its pattern hasn't
  pub member_placement_still : has (table_pattern tables m) (cell_for n m tile) ≡ false
      → placement_of (table_pattern tables m) (board_for m next) ≡ placement_of (table_pattern tables m) (board_for m b)
  member_placement_still none =
      placement_still (record { side = n; tiles = table_pattern tables m }) pat _ (board_for m b) (board_for m next) (cell_for n m tile)
      (cell_for n m from) (cell_for n m to)
      (step_for n move b next tile from to step m) none

  -- and so does its index
  pub member_index_still : has (table_pattern tables m) (cell_for n m tile) ≡ false
      → index_on (record { side = n; tiles = table_pattern tables m }) (board_for m next) ≡ index_on
      (record { side = n; tiles = table_pattern tables m }) (board_for m b)
  member_index_still none = ap (index_in (record { side = n; tiles = table_pattern tables m })) (member_placement_still none)

  -- as its word tells
  pub member_shifts : (table_of tables m).is_folded ≡ false → (rises : Bool)
      → ((d : ℕ) → IsLeastCost (table_pattern tables m) (board_for m b) d → RisesOrFalls rises (table_pattern tables m) (board_for m next) d)
      → (d : ℕ) → MemberSays tables m b (Finite d) → (e : ℕ) × MemberSays tables m next (Finite e) × Shifts (Some rises) d e
  member_shifts full true told d says =
      let is = told d (full_says (table_of tables m) (board_for m b) d full says) in
      (d + 1, says_full (table_of tables m) (board_for m next) (d + 1) full (is.rises_by_one.0 refl), refl)
  member_shifts full false told d says =
      let is = told d (full_says (table_of tables m) (board_for m b) d full says) in
      let falls = is.falls_by_one.0 refl in
      (falls.0, says_full (table_of tables m) (board_for m next) falls.0 full falls.1, falls.2)
