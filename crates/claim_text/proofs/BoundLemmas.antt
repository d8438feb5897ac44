-- Bounds and their parts, as claims say them.
use Rattle.std.proofs.Common.{◌≡◌, ℕ, ◌<◌, ◌≤◌, List, [], ◌∷◌, ◌++◌, append_assoc, Option, Some, None, Ok, Err, Result, lit<, sym, ◌∙◌, ap}
use Rattle.std.proofs.Common.{subst, arith, codes, decimal}
use Rattle.std.specs.Option.{SomeIff}
use Rattle.std.specs.Prelude.{IfNone}
use Rattle.std.specs.Result.{OkIff, result_ok}
use Rattle.puz_board.specs.BoardTexts.{parts}
use Rattle.move_strings.specs.BoundParts.{IsPart, ShownPart}
use Rattle.claim_text.specs.Claims.{HasNo, IsCutAt, ShownAsks, SpellsAsks, bound, moves, part, part_words, shortest}
use Rattle.claim_text.proofs.CutLemmas.{cut_nowhere, one_cut}
use Rattle.claim_text.proofs.DecimalLemmas.{decimal-no, one_decimal}

whole_part : (p : ShownPart) → part_words p ≡ decimal p.index ++ 47 ∷ decimal p.count
whole_part p = append_assoc (decimal p.index) (codes "/") (decimal p.count)

-- a part in words is cut at its `/`, between its two numbers
cut_of_part : (p : ShownPart) → IsCutAt 47 (part_words p) (decimal p.index) (decimal p.count)
cut_of_part p = record { whole = whole_part p; first = decimal-no 47 p.index (lit< tt) }

-- so a text that is cut there has these numbers where it is a part in words
pub part_cut : (words index count : List ℕ) (p : ShownPart) → IsCutAt 47 words index count → words ≡ part_words p → (index ≡ decimal p.index)
    × (count ≡ decimal p.count)
part_cut words index count p cut e =
    one_cut 47 (part_words p) index count (decimal p.index) (decimal p.count) (subst (λ text. IsCutAt 47 text index count) e cut) (cut_of_part p)

-- and a text without a `/` is none
pub no_slash : (words : List ℕ) (p : ShownPart) → HasNo 47 words → words ≡ part_words p → ⊥
no_slash words p none e = cut_nowhere 47 (decimal p.index) (decimal p.count) (subst (HasNo 47) (e ∙ whole_part p) none)

one_part : (p q : ShownPart) → IsPart p → IsPart q → part_words p ≡ part_words q → p ≡ q
one_part p q s t e =
    let same = part_cut (part_words p) (decimal p.index) (decimal p.count) q (cut_of_part p) e in
    let sf = s.few in let sb = s.below in let tf = t.few in let tb = t.below in
    let index = one_decimal p.index q.index (omega arith) (omega arith) same.0 in
    let count = one_decimal p.count q.count sf tf same.1 in
    λ i. record { index = index i; count = count i }

-- what is there exactly where numbers are a part is not there where they are none
pub no_part : {A : Type 0} (r : Option A) (P : Type 0) (v : A) {Q : Type 0} → SomeIff r P v → (¬ P → Q) → IfNone r Q
no_part None P v none f = f none
no_part (Some x) P v is f = tt

-- a number that is not taken is no bound
pub not_small : {E : Type 0} (r : Result ℕ E) (n : ℕ) → OkIff r (n < 256) n → None ≡ result_ok r → ¬ (n < 256)
not_small (Ok m) n is none = absurd (let no : None ≡ Some m = none in cc)
not_small (Err fault) n is none = is

-- the words at the head of a list, and behind it
first_word : List (List ℕ) → List ℕ
first_word [] = []
first_word (word ∷ more) = word

-- the words behind the first one of a list
pub later_words : List (List ℕ) → List (List ℕ)
later_words [] = []
later_words (word ∷ more) = more

-- a text that begins with a larger number says nothing there
pub no_bound : (text digits : List ℕ) (behind : List (List ℕ)) (m : ℕ) → parts text ≡ digits ∷ behind → digits ≡ decimal m → m ≤ 65535 → ¬ (m < 256)
    → (asks : ShownAsks) → ¬ SpellsAsks text asks
unfolding first_word
no_bound text digits behind m front is most large shortest says = says
no_bound text digits behind m front is most large (moves u) says = says
no_bound text digits behind m front is most large (bound n) says =
    let small = says.small in
    let same = one_decimal m n most (omega arith) (sym is ∙ ap first_word (sym front ∙ says.numeral)) in large (omega arith)
no_bound text digits behind m front is most large (part n p) says =
    let small = says.small in
    let same = one_decimal m n most (omega arith) (sym is ∙ ap first_word (sym front ∙ says.words)) in large (omega arith)

-- a text says one thing at most behind the `:` of a claim
pub one_spelt : (text : List ℕ) (a b : ShownAsks) → SpellsAsks text a → SpellsAsks text b → a ≡ b
unfolding first_word later_words
one_spelt text shortest b p q = absurd p
one_spelt text (moves u) b p q = absurd p
one_spelt text (bound m) shortest p q = absurd q
one_spelt text (bound m) (moves u) p q = absurd q
one_spelt text (bound m) (bound n) p q =
    let small = p.small in let few = q.small in
    ap bound (one_decimal m n (omega arith) (omega arith) (ap first_word (sym p.numeral ∙ q.numeral)))
one_spelt text (bound m) (part n r) p q = absurd (let no = ap later_words (sym p.numeral ∙ q.words) in cc)
one_spelt text (part m r) shortest p q = absurd q
one_spelt text (part m r) (moves u) p q = absurd q
one_spelt text (part m r) (bound n) p q = absurd (let no = ap later_words (sym q.numeral ∙ p.words) in cc)
one_spelt text (part m r) (part n s) p q =
    let small = p.small in let few = q.small in
    let same = sym p.words ∙ q.words in
    let number = one_decimal m n (omega arith) (omega arith) (ap first_word same) in
    let parts_same = one_part r s p.is q.is (ap (λ all. first_word (later_words (later_words all))) same) in
    λ i. part (number i) (parts_same i)
