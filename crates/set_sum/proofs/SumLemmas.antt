-- What a set says of a board: it is one thing, and bounds the board's solutions.
use Rattle.std.proofs.Common.{◌≡◌, ℕ, ◌+◌, ◌≤◌, List, [], ◌∷◌, ◌++◌, length, inl, inr, refl, ap, arith}
use Rattle.std.specs.Prelude.{Any}
use Rattle.std.specs.List.{AllByRecursion}
use Rattle.puz_board.specs.Boards.{IsBoardOf}
use Rattle.puz_board.specs.Costs.{cost}
use Rattle.puz_board.specs.Paths.{IsSolution}
use Rattle.tab_rule.specs.declared.tables.Count.{Count}
use Rattle.tab_rule.specs.declared.tables.Count.TheVariants.{Finite, Never}
use Rattle.set_sum.specs.Bounds.{BoundsSolutions}
use Rattle.set_sum.specs.Bundles.{IsSetOf}
use Rattle.set_sum.specs.Members.{MemberSays, pattern_of, patterns_of_set, table_pattern}
use Rattle.set_sum.specs.Parts.{ShownPart}
use Rattle.set_sum.specs.Sums.{AddUpTo, SetSays, total_cost}
use Rattle.set_sum.specs.declared.members.Member.{Member}
use Rattle.set_sum.proofs.AnyLemmas.{Any-cases, Any-here, Any-later, Any-none}
use Rattle.set_sum.proofs.CostLemmas.{total_cost-within}
use Rattle.set_sum.proofs.HomeLemmas.{IsOf}
use Rattle.set_sum.proofs.MemberLemmas.{member_either, member_none, member_once, member_within}

module _ (n : ℕ) (tables : List ShownPart) (b : List ℕ) (good : IsBoardOf n b) (path : List ℕ) (solves : IsSolution b path) where
  abbrev IsMember : Member → Type 0
  IsMember m = IsOf n (table_pattern tables m)

  sum_within : (set : List Member) → AllByRecursion IsMember set → (d : ℕ) → AddUpTo tables set b d → d ≤ total_cost (patterns_of_set n tables set) b path
  sum_within [] all d is = let e : d ≡ 0 = is in omega arith
  sum_within (m ∷ ms) all d is =
      let first : is.0 ≤ cost (pattern_of n tables m) b path = member_within n b good path solves tables m all.0 is.0 is.2 in
      let rest : is.1 ≤ total_cost (patterns_of_set n tables ms) b path = sum_within ms all.1 is.1 is.3 in
      let e : d ≡ is.0 + is.1 = is.4 in
      omega arith

  never_none : (set : List Member) → AllByRecursion IsMember set → ¬ Any (λ m. MemberSays tables m b Never) set
  never_none [] all h = Any-none (λ m. MemberSays tables m b Never) h
  never_none (m ∷ ms) all h = elim (Any-cases (λ m. MemberSays tables m b Never) m ms h) [
    | inl never ↦ member_none n b good path solves tables m all.0 never
    | inr more ↦ never_none ms all.1 more
  ]

-- what a set of disjoint members says of a board bounds the board's solutions
pub set_bounds : (n : ℕ) (tables : List ShownPart) (set : List Member) → IsSetOf n tables set → (b : List ℕ) → IsBoardOf n b → (count : Count)
    → SetSays tables set b count → BoundsSolutions b count
set_bounds n tables set is b good (Finite d) says = λ path solves.
    let patterns : List (List ℕ) = patterns_of_set n tables set in
    let low : d ≤ total_cost patterns b path = sum_within n tables b good path solves set is.patterns d says in
    let high : total_cost patterns b path ≤ length path = total_cost-within patterns is.disjoint path b in
    omega arith
set_bounds n tables set is b good Never says = λ path solves. never_none n tables b good path solves set is.patterns says

module _ (tables : List ShownPart) where
  -- ---- one thing

  sum_once : (set : List Member) (b : List ℕ) (d e : ℕ) → AddUpTo tables set b d → AddUpTo tables set b e → d ≡ e
  sum_once [] b d e one other = let p : d ≡ 0 = one in let q : e ≡ 0 = other in omega arith
  sum_once (m ∷ ms) b d e one other =
      let first : one.0 ≡ other.0 = member_once tables m b one.0 other.0 one.2 other.2 in
      let rest : one.1 ≡ other.1 = sum_once ms b one.1 other.1 one.3 other.3 in
      let p : d ≡ one.0 + one.1 = one.4 in
      let q : e ≡ other.0 + other.1 = other.4 in
      omega arith

  sum_either : (set : List Member) (b : List ℕ) (d : ℕ) → AddUpTo tables set b d → ¬ Any (λ m. MemberSays tables m b Never) set
  sum_either [] b d one h = Any-none (λ m. MemberSays tables m b Never) h
  sum_either (m ∷ ms) b d one h = elim (Any-cases (λ m. MemberSays tables m b Never) m ms h) [
    | inl never ↦ member_either tables m b one.0 one.2 never
    | inr more ↦ sum_either ms b one.1 one.3 more
  ]

  -- a set says no two things of a board
  pub set_once : (set : List Member) (b : List ℕ) (c d : Count) → SetSays tables set b c → SetSays tables set b d → c ≡ d
  set_once set b (Finite c) (Finite d) one other = ap Finite (sum_once set b c d one other)
  set_once set b (Finite c) Never one other = absurd (sum_either set b c one other)
  set_once set b Never (Finite d) one other = absurd (sum_either set b d other one)
  set_once set b Never Never one other = refl

  -- ---- member by member

  -- one member more adds the number that it says to the sum of a set
  pub AddUpTo-push : (set : List Member) (m : Member) (b : List ℕ) (d e : ℕ) → AddUpTo tables set b d → MemberSays tables m b (Finite e)
      → AddUpTo tables (set ++ m ∷ []) b (d + e)
  AddUpTo-push [] m b d e sum says = let z : d ≡ 0 = sum in (e, 0, says, refl, let g : d + e ≡ e + 0 = omega arith in g)
  AddUpTo-push (x ∷ set) m b d e sum says =
      let z : d ≡ sum.0 + sum.1 = sum.4 in
      (sum.0, sum.1 + e, sum.2, AddUpTo-push set m b sum.1 e sum.3 says, let g : d + e ≡ sum.0 + (sum.1 + e) = omega arith in g)

  -- ---- something

  -- a member says something of the board
  abbrev pub IsTold : List ℕ → Member → Type 0
  IsTold b m = (count : Count) × MemberSays tables m b count

  one_more_told : (m : Member) (ms : List Member) (b : List ℕ) (c d : Count) → MemberSays tables m b c → SetSays tables ms b d → (count : Count)
      × SetSays tables (m ∷ ms) b count
  one_more_told m ms b (Finite c) (Finite d) one more = (Finite (c + d), (c, d, one, more, refl))
  one_more_told m ms b (Finite c) Never one more = (Never, Any-later (λ x. MemberSays tables x b Never) m ms more)
  one_more_told m ms b Never d one more = (Never, Any-here (λ x. MemberSays tables x b Never) m ms one)

  -- where each member says something of the board, the set does
  pub set_told : (set : List Member) (b : List ℕ) → AllByRecursion (IsTold b) set → (count : Count) × SetSays tables set b count
  set_told [] b all = (Finite 0, refl)
  set_told (m ∷ ms) b all = let rest = set_told ms b all.1 in one_more_told m ms b all.0.0 rest.0 all.0.1 rest.1
