-- What is read as a number, and what is none.
use Rattle.std.proofs.Common.{◌≡◌, ℕ, ◌≤◌, List, [], ◌∷◌, true, false, nat_eq, eq-eqb, Option, Some, None, Ok, Err, Result, refl, sym, ◌∙◌, ap, subst}
use Rattle.std.proofs.Common.{arith, decimal, IsUtf8, MatchResult}
use Rattle.std.proofs.lemmas.Bool.{and_from}
use Rattle.std.proofs.lemmas.Fmt.{IsAscii-decimal, parse-decimal}
use Rattle.std.proofs.lemmas.Str.{IsUtf8-from_ascii}
use Rattle.std.specs.Borrow.{Bor}
use Rattle.std.specs.Cmp.Lexicographic.{pointwise}
use Rattle.std.specs.Result.{result_ok}
use Rattle.std.specs.Str.Parse.{ParsesUnsigned}

-- what is no text is no number in decimal
pub no_text : {E : Type 0} (digits : List ℕ) (r : Result (Bor (List ℕ)) E) (Fault : E → Type 0)
    → MatchResult r (λ s. (s.now ≡ digits) × IsUtf8 digits) (λ e. ¬ IsUtf8 digits × Fault e) → None ≡ result_ok r
    → (n : ℕ) → n ≤ 65535 → ¬ (digits ≡ decimal n)
no_text digits (Ok s) Fault says none n small e = absurd (let f : None ≡ Some s = none in cc)
no_text digits (Err fault) Fault says none n small e = says.0 (subst IsUtf8 (sym e) (IsUtf8-from_ascii (decimal n) (IsAscii-decimal n (omega arith))))

-- the text has the bytes that it was made of
pub same_text : {E : Type 0} (digits : List ℕ) (r : Result (Bor (List ℕ)) E) (Fault : E → Type 0) (t : Bor (List ℕ))
    → MatchResult r (λ s. (s.now ≡ digits) × IsUtf8 digits) (λ e. ¬ IsUtf8 digits × Fault e) → Some t ≡ result_ok r → t.now ≡ digits
same_text digits (Ok s) Fault t says e = ap now_of e ∙ says.0
  where
    now_of : Option (Bor (List ℕ)) → List ℕ
    now_of None = digits
    now_of (Some x) = x.now
same_text digits (Err fault) Fault t says e = absurd (let f : Some t ≡ None = e in cc)

-- the decimal of a number from 0 to 65,535 is read as it
pub read_decimal : {E : Type 0} (text : List ℕ) (r : Result ℕ E) (n : ℕ) → n ≤ 65535 → text ≡ decimal n → ParsesUnsigned 16 10 text r → result_ok r ≡ Some n
read_decimal text r n small e parsed = ap result_ok (parse-decimal 16 n text r (omega arith) (omega arith) e parsed)

pointwise_same : (a : List ℕ) → pointwise nat_eq a a ≡ true
pointwise_same [] = refl
pointwise_same (x ∷ xs) = and_from (nat_eq x x) (pointwise nat_eq xs xs) (eq-eqb x x refl) (pointwise_same xs)

-- two texts that are one are not found to differ
pub not_differ : (a b : List ℕ) → a ≡ b → ¬ (false ≡ pointwise nat_eq a b)
not_differ a b e differ =
    let same : pointwise nat_eq a b ≡ true = subst (λ text. pointwise nat_eq a text ≡ true) e (pointwise_same a) in
    absurd (let no : false ≡ true = differ ∙ same in cc)

-- the value that is there
pub some_same : (m n : ℕ) → Some m ≡ Some n → m ≡ n
some_same m n e = cc
