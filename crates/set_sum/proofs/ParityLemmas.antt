-- A finite count is at most the number of steps of any solution also where it is raised to the parity of these numbers.
use Rattle.std.proofs.Common.{◌≡◌, ℕ, ◌+◌, ◌%◌, ◌≤◌, Bool, true, false, eqb, List, length, inl, inr, ne_eqb, eq-eqb, sym, ◌∙◌, ap, subst, arith}
use Rattle.std.proofs.lemmas.Bool.{cases_eq, cond-true, cond-false}
use Rattle.puz_board.specs.Boards.{IsBoardOf}
use Rattle.puz_board.specs.Parity.{blank_parity}
use Rattle.puz_board.proofs.ParityLemmas.{solution_parity}
use Rattle.tab_rule.specs.declared.tables.Count.{Count}
use Rattle.tab_rule.specs.declared.tables.Count.TheVariants.{Finite, Never}
use Rattle.set_sum.specs.Bounds.{BoundsSolutions, IsBounded}
use Rattle.set_sum.specs.Raised.{raised, told_of}

raised_bounds : (n : ℕ) (b : List ℕ) → IsBoardOf n b → (d : ℕ) → IsBounded b d → IsBounded b (raised (blank_parity b) d)
raised_bounds n b good d bounds = λ path solves.
    let low : d ≤ length path = bounds path solves in
    let parity : length path % 2 ≡ blank_parity b = solution_parity n b good path solves in
    elim (cases_eq (d % 2) (blank_parity b)) [
      | inl same ↦ subst (λ k. k ≤ length path) (sym (cond-true (eqb (d % 2) (blank_parity b)) d (d + 1) (eq-eqb (d % 2) (blank_parity b) same))) low
      | inr other ↦
          let less : d + 1 ≤ length path = elim (cases_eq d (length path)) [ inl e ↦ absurd (other (ap (λ k. k % 2) e ∙ parity)) | inr ne ↦ omega arith ] in
          subst (λ k. k ≤ length path) (sym (cond-false (eqb (d % 2) (blank_parity b)) d (d + 1) (ne_eqb (d % 2) (blank_parity b) other))) less
    ]

-- a count that bounds a board's solutions still does where it is raised by parity
pub told_bounds : (by_parity : Bool) (n : ℕ) (b : List ℕ) → IsBoardOf n b → (count : Count) → BoundsSolutions b count
    → BoundsSolutions b (told_of by_parity b count)
told_bounds true n b good (Finite d) bounds = raised_bounds n b good d bounds
told_bounds true n b good Never none = none
told_bounds false n b good count bounds = bounds
