-- What the sets of a bundle say of boards.
use Rattle.std.proofs.Common.{◌≡◌, Bool, ℕ, ◌<◌, ◌≤◌, ◌⊎◌, List, [], length, inl, inr, subst, arith}
use Rattle.std.proofs.lemmas.Bool.{cases_lt}
use Rattle.puz_board.specs.Boards.{IsBoardOf}
use Rattle.tab_rule.specs.declared.tables.Count.{Count}
use Rattle.tab_rule.specs.declared.tables.Count.TheVariants.{Finite, Never}
use Rattle.set_sum.specs.Bounds.{BoundsSolutions, IsBounded, CountReaches}
use Rattle.set_sum.specs.Bundles.{ShownBundle, IsBundle, IsSetOf, BundleSays, SaysAtLeast, set_of}
use Rattle.set_sum.specs.Raised.{told_of}
use Rattle.set_sum.proofs.ListLemmas.{all_at}
use Rattle.set_sum.proofs.ParityLemmas.{told_bounds}
use Rattle.set_sum.proofs.SumLemmas.{set_bounds, set_once}

-- no set of a bundle says two things of a board
pub says_once : (v : ShownBundle) (number : ℕ) (b : List ℕ) (c d : Count) → BundleSays v number b c → BundleSays v number b d → c ≡ d
says_once v number b c d one other = set_once v.tables (set_of v number) b c d one.says other.says

-- the set of a bundle with a number below their count has disjoint members of its side
pub set_is : (v : ShownBundle) → IsBundle v → (number : ℕ) → number < length v.sets → IsSetOf v.side v.tables (set_of v number)
set_is v is number there = all_at (IsSetOf v.side v.tables) v.sets number [] there is.each

-- what a set of a bundle says of a board bounds the board's solutions
pub says_bounds : (v : ShownBundle) → IsBundle v → (number : ℕ) (b : List ℕ) (count : Count) → IsBoardOf v.side b → BundleSays v number b count
    → BoundsSolutions b count
says_bounds v is number b count good says = set_bounds v.side v.tables (set_of v number) (set_is v is number says.there) b good count says.says

reaches_bounds : (b : List ℕ) (r : ℕ) (count : Count) → CountReaches count r → BoundsSolutions b count → IsBounded b r
reaches_bounds b r (Finite d) enough bounds = λ path solves. let low : r ≤ d = enough in let high : d ≤ length path = bounds path solves in omega arith
reaches_bounds b r Never enough none = λ path solves. absurd (none path solves)

-- a set that says at least r bounds the solutions by r
pub at_least_bounds : (v : ShownBundle) → IsBundle v → (by_parity : Bool) (number : ℕ) (b : List ℕ) (r : ℕ) → IsBoardOf v.side b
    → SaysAtLeast v by_parity number b r → IsBounded b r
at_least_bounds v is by_parity number b r good at_least =
    reaches_bounds b r (told_of by_parity b at_least.count) at_least.enough
    (told_bounds by_parity v.side b good at_least.count (says_bounds v is number b at_least.count good at_least.says))

-- where a set says at least r, what it says, taken so, is never or at least r
pub reaches_from_sum : (v : ShownBundle) (by_parity : Bool) (number : ℕ) (b : List ℕ) (count : Count) (r : ℕ)
    → BundleSays v number b count → SaysAtLeast v by_parity number b r → CountReaches (told_of by_parity b count) r
reaches_from_sum v by_parity number b count r says at_least =
    subst (λ c. CountReaches (told_of by_parity b c) r) (says_once v number b at_least.count count at_least.says says) at_least.enough

reaches_decided : (count : Count) (r : ℕ) → CountReaches count r ⊎ (¬ CountReaches count r)
reaches_decided (Finite d) r = elim (cases_lt d r) [ inl few ↦ inr (λ enough. let l : r ≤ d = enough in omega arith) | inr enough ↦ inl enough ]
reaches_decided Never r = inl tt

-- whether a set says at least r of a board is settled
pub at_least_decided : (v : ShownBundle) → IsBundle v → (by_parity : Bool) (number : ℕ) (b : List ℕ) → IsBoardOf v.side b → (r : ℕ)
    → SaysAtLeast v by_parity number b r ⊎ (¬ SaysAtLeast v by_parity number b r)
at_least_decided v is by_parity number b board r = elim (cases_lt number (length v.sets)) [
  | inr none ↦ inr (λ h. let there : number < length v.sets = h.says.there in omega arith)
  | inl there ↦
      let told = is.told number there b board in
      elim (reaches_decided (told_of by_parity b told.0) r) [
        | inl enough ↦ inl (record { count = told.0; says = told.1; enough = enough })
        | inr few ↦ inr (λ h. few (reaches_from_sum v by_parity number b told.0 r told.1 h))
      ]
]
