-- How many cells below another one are free, and how many of them a row lists.
use Rattle.std.proofs.Common.{◌≡◌, ℕ, zero, suc, ◌+◌, ◌*◌, ◌<◌, ◌≤◌, false, ltb, List, length, get_or, set, inl, inr, sym, ◌∙◌, ap, arith}
use Rattle.std.proofs.Common.{get_or-set_same, get_or-set_other}
use Rattle.std.specs.Int.{from_bool}
use Rattle.std.proofs.lemmas.Bool.{cases_eq, cases_lt, le-ltb, lt-ltb}
use Rattle.pat_place.specs.Patterns.{has}
use Rattle.pat_place.specs.Placements.{IsFree}
use Rattle.tab_runs.specs.Rows.{listed_below}
use Rattle.tab_runs.specs.SetRows.{listed_of}
use Rattle.tab_runs.specs.RunPlaces.{AreFreeBelow}
use Rattle.tab_runs.specs.Runs.{free_below, with_last}
use Rattle.tab_runs.proofs.RunLemmas.{with_last-here, with_last-other}
use Rattle.tab_runs.proofs.RunRanks.{free_below-alike, free_below-free, free_below-taken, free_below-zero}

at_next : (p : List ℕ) (c : ℕ) → free_below p (suc c) ≡ free_below p (c + 1)
at_next p c = ap (free_below p) (let e : suc c ≡ c + 1 = omega arith in e)

module _ (p : List ℕ) (x : ℕ) (out : has p x ≡ false) where
  -- up to x all that are free
  pub listed_before : (c : ℕ) → c ≤ x → free_below p c ≡ listed_below p x c
  listed_before zero l = free_below-zero p ∙ sym (free_below-zero (with_last p x))
  listed_before (suc c) l =
      let ih = listed_before c (omega arith) in
      let more = free_below-alike (with_last p x) p c 0 (with_last-other p x c (λ e. omega arith)) (omega arith) in
      let h = at_next p c in
      let k = at_next (with_last p x) c in
      omega arith

  -- from there on all but x
  pub listed_behind : (c : ℕ) → x < c → free_below p c ≡ listed_below p x c + 1
  listed_behind zero l = absurd (omega arith)
  listed_behind (suc c) l =
      let h = at_next p c in
      let k = at_next (with_last p x) c in
      elim (cases_eq x c) [
        | inl e ↦
            let before = listed_before c (omega arith) in
            let more = free_below-free p c (ap (has p) (sym e) ∙ out) in
            let same = free_below-taken (with_last p x) c (ap (has (with_last p x)) (sym e) ∙ with_last-here p x) in
            omega arith
        | inr ne ↦
            let ih = listed_behind c (omega arith) in
            let more = free_below-alike (with_last p x) p c 1 (with_last-other p x c ne) ih in
            omega arith
      ]

  -- the count of listed cells below c, got from that of free cells below c, is right for a cell x that no tile is in
  pub listed_is : (c free : ℕ) → free ≡ free_below p c → listed_of c free x ≡ listed_below p x c
  listed_is c free e = elim (cases_lt x c) [
    | inl l ↦ (let h = listed_behind c l in let b : from_bool (ltb x c) ≡ 1 = ap from_bool (lt-ltb x c l) in omega arith)
    | inr l ↦ (let h = listed_before c l in let b : from_bool (ltb x c) ≡ 0 = ap from_bool (le-ltb x c l) in omega arith)
  ]

-- where two free cells stand in the rows of each other
pub listed_both : (n : ℕ) (p below : List ℕ) (a b : ℕ) → AreFreeBelow p (n * n) below → IsFree n p a → IsFree n p b → a < b
    → (get_or below a 0 ≡ listed_below p b a) × (get_or below b 0 ≡ listed_below p a b + 1)
listed_both n p below a b are free_a free_b l = (
  are a free_a.0 ∙ listed_before p b free_b.1 a (omega arith),
  are b free_b.0 ∙ listed_behind p a free_a.1 b l,
)

-- the number of free cells below one cell more
pub below_more : (p below : List ℕ) (c free : ℕ) → c < length below → free ≡ free_below p c → AreFreeBelow p c below → AreFreeBelow p (c + 1) (set below c free)
below_more p below c free low e are d l = elim (cases_eq d c) [
  | inl same ↦ ap (λ i. get_or (set below c free) i 0) same ∙ get_or-set_same below c free 0 low ∙ e ∙ ap (free_below p) (sym same)
  | inr ne ↦ get_or-set_other below c d free 0 ne ∙ are d (omega arith)
]
