-- Claims and their answers, one after the other.
use Rattle.std.proofs.Common.{◌≡◌, ◌∙◌, ℕ, ◌+◌, ◌<◌, List, Some, inl, inr, arith, get_or, get_or-set_other, get_or-set_same, length, set, subst, sym}
use Rattle.std.proofs.lemmas.Bool.{cases_lt}
use Rattle.std.proofs.lemmas.Option.{slice_get-get_or}
use Rattle.pdb_checker.specs.Claims.{IsAnswered}
use Rattle.pdb_checker.specs.declared.answers.Answer.{Answer}
use Rattle.pdb_checker.specs.declared.claims.Claim.{Claim}

-- an element that is there is the same whatever is read where it isn't
one_element : (claims : List Claim) (i : ℕ) (c d : Claim) → i < length claims → get_or claims i c ≡ get_or claims i d
one_element claims i c d low =
    let e : Some (get_or claims i c) ≡ Some (get_or claims i d) = sym (slice_get-get_or claims i c low) ∙ slice_get-get_or claims i d low in cc

-- the answer to one claim more, in its place
pub answered_more : (claims : List Claim) (answers : List Answer) (number : ℕ) (d : Claim) (new : Answer) → number < length claims
    → number < length answers → IsAnswered (get_or claims number d) new
    → ((at : ℕ) (claim : Claim) (answer : Answer) → at < number → IsAnswered (get_or claims at claim) (get_or answers at answer))
    → (at : ℕ) (claim : Claim) (answer : Answer) → at < number + 1 → IsAnswered (get_or claims at claim) (get_or (set answers number new) at answer)
answered_more claims answers number d new low room is before at claim answer l = elim (cases_lt at number) [
  | inl less ↦
      let same : get_or (set answers number new) at answer ≡ get_or answers at answer = get_or-set_other answers number at new answer (omega arith) in
      subst (IsAnswered (get_or claims at claim)) (sym same) (before at claim answer less)
  | inr more ↦
      let here : number ≡ at = omega arith in
      let same : get_or (set answers number new) number answer ≡ new = get_or-set_same answers number new answer room in
      subst (λ k. IsAnswered (get_or claims k claim) (get_or (set answers number new) k answer)) here
      (subst (IsAnswered (get_or claims number claim)) (sym same)
      (subst (λ x. IsAnswered x new) (one_element claims number d claim low) is))
]
