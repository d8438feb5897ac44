-- What is found, refused or told, and steps behind one another.
use Rattle.std.proofs.Common.{◌≡◌, ◌≢◌, ◌∙◌, ◌↔◌, MatchResult, Result, Ok, Err, ap, refl, sym}
use Rattle.pdb_verdict.specs.Refusals.{IsCauseBy, IsFoundBy, IsTold, told_as}
use Rattle.pdb_verdict.specs.declared.verdicts.Fault.{Fault}
use Rattle.pdb_verdict.specs.declared.verdicts.Verdict.{Verdict}

-- what comes of a result, by cases
pub by_result : {A R B : Type 0} (r : Result A R) → ((a : A) → r ≡ Ok a → B) → ((e : R) → r ≡ Err e → B) → B
by_result (Ok a) ok err = ok a refl
by_result (Err e) ok err = err e refl

-- ---- one result

-- this holds of one thing at most
abbrev pub IsOne : {X : Type 0} → (X → Type 0) → Type 0
IsOne {X = X} Is = (a b : X) → Is a → Is b → a ≡ b

-- the same of what implies it
pub one_by : {X : Type 0} {Is By : X → Type 0} → ((x : X) → Is x → By x) → IsOne By → IsOne Is
one_by by one a b is also = one a b (by a is) (by b also)

-- there is one result, where nothing is both found and refused
pub one_result : {A R : Type 0} {IsFound : A → Type 0} {IsRefused : R → Type 0} → IsOne IsFound → IsOne IsRefused
    → ((a : A) (r : R) → IsFound a → IsRefused r → ⊥) → IsOne (λ (x : Result A R). MatchResult x IsFound IsRefused)
one_result found refused apart (Ok a) (Ok b) is also = ap Ok (found a b is also)
one_result found refused apart (Ok a) (Err r) is also = absurd (apart a r is also)
one_result found refused apart (Err r) (Ok a) is also = absurd (apart a r also is)
one_result found refused apart (Err r) (Err q) is also = ap (λ x. Err x) (refused r q is also)

module _ {A B : Type 0} {Is : A → Type 0} (make : A → B) where
  -- one thing is made of one
  pub one_made : IsOne Is → IsOne (λ b. (a : A) × Is a × (b ≡ make a))
  one_made one x y is also = is.2 ∙ ap make (one is.0 also.0 is.1 also.1) ∙ sym also.2

  -- and one of each
  pub some_made : (a : A) × Is a → (b : B) × ((a : A) × Is a × (b ≡ make a))
  some_made some = (make some.0, (some.0, some.1, refl))

-- ---- steps behind one another

-- a result comes behind what a first step finds, whose refusal stays
pub record Behind {A R B : Type 0} (IsFirst : Result A R → Type 0) (why : R → B) (IsNext : A → B → Type 0) (result : B)
    : Type 0 where
  pub first : Result A R
  pub is_first : IsFirst first
  pub comes : MatchResult first (λ a. IsNext a result) (λ r. result ≡ why r)

module _ {A R B : Type 0} {IsFirst : Result A R → Type 0} {why : R → B} {IsNext : A → B → Type 0} where
  -- it comes of what is found
  pub after : {result : B} (a : A) → IsFirst (Ok a) → IsNext a result → Behind IsFirst why IsNext result
  after a is comes = record { first = Ok a; is_first = is; comes = comes }

  -- it is why the first step refuses
  pub stays : (r : R) → IsFirst (Err r) → Behind IsFirst why IsNext (why r)
  stays r is = record { first = Err r; is_first = is; comes = refl }

  -- one thing comes of steps that each find one
  pub one_behind : IsOne IsFirst → ((a : A) → IsOne (IsNext a)) → IsOne (Behind IsFirst why IsNext)
  one_behind one next x y is also =
      by is.first is.comes (rw (one also.first is.first also.is_first is.is_first) at also.comes)
    where
      by : (first : Result A R) → MatchResult first (λ a. IsNext a x) (λ r. x ≡ why r)
          → MatchResult first (λ a. IsNext a y) (λ r. y ≡ why r) → x ≡ y
      by (Ok a) comes too = next a x y comes too
      by (Err r) comes too = comes ∙ sym too

-- ---- want of memory

-- what makes one refusal another makes one cause another, where memory is taken for both
pub cause_by : {Was Is : Fault → Type 0} {Took Takes : Type 0} → ((refused : Fault) → Was refused → Is refused) → (Took → Takes)
    → (fault : Fault) → IsCauseBy Was Took fault → IsCauseBy Is Takes fault
cause_by next takes Fault.Memory is = takes is
cause_by next takes refused is = next refused is

-- where want of memory is told apart, this holds of the refusal
pub cause_settled : (IsRefused : Fault → Type 0) (Takes : Type 0) (fault : Fault) → fault ≢ Fault.Memory → IsCauseBy IsRefused Takes fault
    → IsRefused fault
cause_settled IsRefused Takes Fault.Memory settled is = absurd (settled refl)
cause_settled IsRefused Takes refused settled is = is

-- and the other way round
pub settled_cause : (IsRefused : Fault → Type 0) (Takes : Type 0) (fault : Fault) → fault ≢ Fault.Memory → IsRefused fault
    → IsCauseBy IsRefused Takes fault
settled_cause IsRefused Takes Fault.Memory settled is = absurd (settled refl)
settled_cause IsRefused Takes refused settled is = is

-- and of what is found
pub found_settled : {A : Type 0} (IsFound : Result A Fault → Type 0) (Takes : Type 0) (found : Result A Fault) → found ≢ Err Fault.Memory
    → IsFoundBy IsFound Takes found → IsFound found
found_settled IsFound Takes (Ok a) settled is = is
found_settled IsFound Takes (Err fault) settled is =
    cause_settled (λ refused. IsFound (Err refused)) Takes fault (λ same. settled (ap (λ x. Err x) same)) is

-- ---- what is told

module _ {A : Type 0} (verdict_of : A → Verdict) (IsFound : Result A Fault → Type 0) where
  by_yes : (v : Verdict) → IsTold verdict_of IsFound (Ok v) → (a : A) × IsFound (Ok a) × (v ≡ verdict_of a)
  by_yes v (Ok a, is, same) = (a, is, cc)
  by_yes v (Err r, is, same) = let clash : ◌≡◌ {A = Result Verdict Fault} (Ok v) (Err r) = same in cc

  -- a yes tells what is found
  pub told_yes : (v : Verdict) → IsTold verdict_of IsFound (Ok v) ↔ ((a : A) × IsFound (Ok a) × (v ≡ verdict_of a))
  told_yes v = (by_yes v, λ h. (Ok h.0, h.1, ap Ok h.2))

  -- what is found is told, or else memory is wanted
  pub found_told : (Takes : Type 0) (found : Result A Fault) → IsFoundBy IsFound Takes found
      → IsFoundBy (IsTold verdict_of IsFound) Takes (told_as verdict_of found)
  found_told Takes (Ok a) is = (Ok a, is, refl)
  found_told Takes (Err fault) is =
      cause_by {Was = λ refused. IsFound (Err refused)} {Is = λ refused. IsTold verdict_of IsFound (Err refused)}
      (λ refused is_found. (Err refused, is_found, refl)) (λ takes. takes) fault is
