-- What an answer with no fault says of the tests before it.
use Rattle.std.proofs.Common.{◌≡◌, ℕ, Bool, true, false, cond, Option, Some, None, Result, Ok, Err, refl}
use Rattle.std.specs.Prelude.{IfOk}
use Rattle.puz_board.specs.BoardTexts.{refuse}

-- where a refusal comes out fine, no place with the fault was found, and the rest came out fine
pub refuse_ok : {A F : Type 0} (fault : ℕ → F) (o : Option ℕ) (rest : Result A F) (x : A) → refuse fault o rest ≡ Ok x → (o ≡ None) × (rest ≡ Ok x)
refuse_ok fault None rest x e = (refl, e)
refuse_ok fault (Some i) rest x e = cc

-- where a fault is answered if a test passes and the answer is fine, the test failed and the rest is fine
pub unless_ok : {A F : Type 0} (test : Bool) (fault : F) (rest : Result A F) (x : A) → cond test (Err fault) rest ≡ Ok x → (test ≡ false) × (rest ≡ Ok x)
unless_ok false fault rest x e = (refl, e)
unless_ok true fault rest x e = cc

-- where a value is answered if a test passes and a fault else, a fine answer is this value and the test passed
pub when_ok : {A F : Type 0} (test : Bool) (y : A) (fault : F) (x : A) → cond test (Ok y) (Err fault) ≡ Ok x → (test ≡ true) × (y ≡ x)
when_ok true y fault x e = (refl, cc)
when_ok false y fault x e = cc

-- what holds of the value of each fine result holds if the result is fine
pub IfOk-from : {A E : Type 0} (r : Result A E) (P : A → Type 0) → ((x : A) → r ≡ Ok x → P x) → IfOk r P
IfOk-from (Ok x) P h = h x refl
IfOk-from (Err e) P h = tt
