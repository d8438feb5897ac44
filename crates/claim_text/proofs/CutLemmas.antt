-- Texts cut at their first such byte, and the lines of a text.
use Rattle.std.proofs.Common.{◌≡◌, ℕ, ◌<◌, Bool, true, false, List, [], ◌∷◌, ◌++◌, length, eqb, not, cond, refl, sym, ◌∙◌, ap, subst, arith, eq-eqb}
use Rattle.std.proofs.lemmas.Bool.{cond-false, not-true}
use Rattle.std.proofs.lemmas.List.Elements.{All-head, All-tail}
use Rattle.std.specs.List.{onto_first}
use Rattle.claim_text.specs.Claims.{HasNo, IsCutAt}
use Rattle.claim_text.specs.Texts.{lines_of}

-- the first byte of a text that has none is another one
pub other_first : (byte x : ℕ) (xs : List ℕ) → HasNo byte (x ∷ xs) → eqb x byte ≡ false
other_first byte x xs none = not-true (eqb x byte) (All-head (λ b. not (eqb b byte) ≡ true) x xs none)

-- the rest of a text that has none has none
pub other_rest : (byte x : ℕ) (xs : List ℕ) → HasNo byte (x ∷ xs) → HasNo byte xs
other_rest byte x xs none = All-tail (λ b. not (eqb b byte) ≡ true) x xs none

absurd_self : {A : Type 0} (byte : ℕ) → eqb byte byte ≡ false → A
absurd_self byte e = let same : eqb byte byte ≡ true = eq-eqb byte byte refl in absurd (let f : true ≡ false = sym same ∙ e in cc)

-- a text that has no such byte is cut nowhere
pub cut_nowhere : (byte : ℕ) (before behind : List ℕ) → HasNo byte (before ++ byte ∷ behind) → ⊥
cut_nowhere byte [] behind none = absurd_self byte (other_first byte byte behind none)
cut_nowhere byte (x ∷ xs) behind none = cut_nowhere byte xs behind (other_rest byte x (xs ++ byte ∷ behind) none)

head_of : ℕ → List ℕ → ℕ
head_of d [] = d
head_of d (x ∷ xs) = x

tail_of : List ℕ → List ℕ
tail_of [] = []
tail_of (x ∷ xs) = xs

-- two cuts of one text are the same
same_cut : (byte : ℕ) (a c b d : List ℕ) → HasNo byte a → HasNo byte b → a ++ byte ∷ c ≡ b ++ byte ∷ d → (a ≡ b) × (c ≡ d)
unfolding head_of tail_of
same_cut byte [] c [] d p q e = (refl, ap tail_of e)
same_cut byte [] c (y ∷ ys) d p q e = absurd_self byte (subst (λ n. eqb n byte ≡ false) (sym (ap (head_of 0) e)) (other_first byte y ys q))
same_cut byte (x ∷ xs) c [] d p q e = absurd_self byte (subst (λ n. eqb n byte ≡ false) (ap (head_of 0) e) (other_first byte x xs p))
same_cut byte (x ∷ xs) c (y ∷ ys) d p q e =
    let rest = same_cut byte xs c ys d (other_rest byte x xs p) (other_rest byte y ys q) (ap tail_of e) in
    let first : x ≡ y = ap (head_of 0) e in
    ((λ i. first i ∷ rest.0 i), rest.1)

-- a text is cut at its first such byte in one way
pub one_cut : (byte : ℕ) (text a c b d : List ℕ) → IsCutAt byte text a c → IsCutAt byte text b d → (a ≡ b) × (c ≡ d)
one_cut byte text a c b d p q = same_cut byte a c b d p.first q.first (sym p.whole ∙ q.whole)

-- and not at all where it has none
pub no_cut : (byte : ℕ) (text a c : List ℕ) → HasNo byte text → IsCutAt byte text a c → ⊥
no_cut byte text a c none cut = cut_nowhere byte a c (subst (HasNo byte) cut.whole none)

-- ---- lines

lines_of-before : (before behind : List ℕ) → HasNo 10 before → lines_of (before ++ 10 ∷ behind) ≡ before ∷ lines_of behind
lines_of-before [] behind none = refl
lines_of-before (x ∷ xs) behind none =
    cond-false (eqb x 10) ([] ∷ lines_of (xs ++ 10 ∷ behind)) (onto_first x (lines_of (xs ++ 10 ∷ behind))) (other_first 10 x xs none) ∙
    ap (onto_first x) (lines_of-before xs behind (other_rest 10 x xs none))

-- what stands before the first LF is the first line
pub lines_of-cut : (text before behind : List ℕ) → IsCutAt 10 text before behind → lines_of text ≡ before ∷ lines_of behind
lines_of-cut text before behind cut = ap lines_of cut.whole ∙ lines_of-before before behind cut.first

-- a text without an LF is one line, where it isn't empty
pub lines_of-last : (x : ℕ) (xs : List ℕ) → HasNo 10 (x ∷ xs) → lines_of (x ∷ xs) ≡ (x ∷ xs) ∷ []
lines_of-last x [] none = cond-false (eqb x 10) ([] ∷ []) (onto_first x []) (other_first 10 x [] none)
lines_of-last x (y ∷ ys) none =
    cond-false (eqb x 10) ([] ∷ lines_of (y ∷ ys)) (onto_first x (lines_of (y ∷ ys))) (other_first 10 x (y ∷ ys) none) ∙
    ap (onto_first x) (lines_of-last y ys (other_rest 10 x (y ∷ ys) none))

-- the same of any text
pub lines_of-whole : (text : List ℕ) → 0 < length text → HasNo 10 text → lines_of text ≡ text ∷ []
lines_of-whole [] some none = absurd (omega arith)
lines_of-whole (x ∷ xs) some none = lines_of-last x xs none

-- a text without a line is empty
pub lines_of-none : (text : List ℕ) → length (lines_of text) ≡ 0 → text ≡ []
lines_of-none [] none = refl
lines_of-none (x ∷ xs) none = absurd (some (eqb x 10) (lines_of xs) none)
  where
    some : (b : Bool) (rest : List (List ℕ)) → ¬ (length (cond b ([] ∷ rest) (onto_first x rest)) ≡ 0)
    some true rest e = omega arith
    some false [] e = omega arith
    some false (line ∷ rest) e = omega arith
