-- The words of a text: what it has between its separators.
use Rattle.std.proofs.Common.{◌≡◌, ℕ, suc, ◌<◌, get_or-take, Bool, true, false, List, [], ◌∷◌, ◌++◌, length, get_or, take, drop, ltb, not, refl, sym}
use Rattle.std.proofs.Common.{◌∙◌, ap, subst, arith, Some, None, inl, inr}
use Rattle.std.proofs.Math.Seq.{drop-cons}
use Rattle.std.proofs.lemmas.Bool.{cases_eq, cond-true, lt-ltb, not-false, not-true}
use Rattle.std.proofs.lemmas.Grind.{get_or_default_zero}
use Rattle.std.proofs.lemmas.List.{length-take-le, take-append-drop}
use Rattle.std.proofs.lemmas.List.Elements.{All-head, All-tail}
use Rattle.std.proofs.lemmas.List.Splits.{slice_split-cons_yes, slice_split_none, slice_split_at}
use Rattle.std.specs.Prelude.{filter, nat_lt, position}
use Rattle.std.specs.List.{All, AllPass, slice_split}
use Rattle.puz_board.specs.BoardTexts.{is_separator, parts}
use Rattle.puz_board.proofs.FirstLemmas.{AllPass-position, fails_each, first-position}

-- the parts that aren't empty
abbrev pub kept : List (List ℕ) → List (List ℕ)
kept all = filter (λ part. nat_lt 0 (length part)) all

-- no byte is a separator
abbrev pub IsWord : List ℕ → Type 0
IsWord word = All (λ b. is_separator b ≡ false) word

parts-separators : (front text : List ℕ) → AllPass is_separator front → parts (front ++ text) ≡ parts text
parts-separators [] text all = refl
parts-separators (x ∷ xs) text all =
    ap kept (slice_split-cons_yes is_separator x (xs ++ text) (All-head (λ b. is_separator b ≡ true) x xs all)) ∙
    parts-separators xs text (All-tail (λ b. is_separator b ≡ true) x xs all)

-- a text of separators has no word
pub parts-blank : (text : List ℕ) → AllPass is_separator text → parts text ≡ []
parts-blank [] all = refl
parts-blank (x ∷ xs) all =
    ap kept (slice_split-cons_yes is_separator x xs (All-head (λ b. is_separator b ≡ true) x xs all)) ∙
    parts-blank xs (All-tail (λ b. is_separator b ≡ true) x xs all)

-- a part with a byte is kept
pub kept-some : (x : ℕ) (xs : List ℕ) (all : List (List ℕ)) → kept ((x ∷ xs) ∷ all) ≡ (x ∷ xs) ∷ kept all
kept-some x xs all = cond-true (ltb 0 (suc (length xs))) ((x ∷ xs) ∷ kept all) (kept all) (lt-ltb 0 (suc (length xs)) (omega arith))

parts-word : (x : ℕ) (xs : List ℕ) → IsWord (x ∷ xs) → parts (x ∷ xs) ≡ (x ∷ xs) ∷ []
parts-word x xs word = ap kept (slice_split_none is_separator (x ∷ xs) word) ∙ kept-some x xs []

parts-word_before : (x : ℕ) (xs : List ℕ) (y : ℕ) (ys : List ℕ) → IsWord (x ∷ xs) → is_separator y ≡ true → parts ((x ∷ xs) ++ y ∷ ys) ≡ (x ∷ xs) ∷ parts ys
parts-word_before x xs y ys word e = ap kept (slice_split_at is_separator (x ∷ xs) y ys word e) ∙ kept-some x xs (slice_split is_separator ys)

-- ---- a word by its place

-- a text of which no byte is another than a separator has no word
pub no_word : (text : List ℕ) → None ≡ position (λ b. not (is_separator b)) text → parts text ≡ []
no_word text e = parts-blank text (AllPass-position is_separator text (sym e))

parts-drop : (text : List ℕ) (start : ℕ) → Some start ≡ position (λ b. not (is_separator b)) text → parts (drop start text) ≡ parts text
parts-drop text start e =
    let first = first-position (λ b. not (is_separator b)) text start (sym e) in
    let within : start < length text = first.within in
    let few : length (take start text) ≡ start = length-take-le start text (omega arith) in
    let front : AllPass is_separator (take start text) =
    λ k d l.
    let below : k < start = omega arith in
    ap is_separator (get_or_default_zero (take start text) k d l ∙ get_or-take start text k 0 below)
    ∙ not-false (is_separator (get_or text k 0)) (first.before k below) in
    sym (ap parts (sym (take-append-drop start text)) ∙ parts-separators (take start text) (drop start text) front)

-- where no separator stands behind the first other byte, what begins there is the one word
pub word_alone : (text rest : List ℕ) (start : ℕ) → rest ≡ drop start text → Some start ≡ position (λ b. not (is_separator b)) text
    → None ≡ position is_separator rest
    → parts text ≡ rest ∷ []
word_alone text rest start r e f =
    let first = first-position (λ b. not (is_separator b)) text start (sym e) in
    let cons = r ∙ drop-cons text start 0 first.within in
    let word : IsWord rest = λ k d l. ap is_separator (get_or_default_zero rest k d l) ∙ fails_each is_separator rest (sym f) k l in
    sym (parts-drop text start e) ∙ ap parts (sym r) ∙ ap parts cons ∙ parts-word (get_or text start 0) (drop (suc start) text) (subst IsWord cons word) ∙
    ap (λ part. part ∷ []) (sym cons)

parts-front : (word : List ℕ) (y : ℕ) (ys : List ℕ) → 0 < length word → IsWord word → is_separator y ≡ true → parts (word ++ y ∷ ys) ≡ word ∷ parts ys
parts-front [] y ys some word e = absurd (omega arith)
parts-front (x ∷ xs) y ys some word e = parts-word_before x xs y ys word e

head_other : (text : List ℕ) (start : ℕ) → Some start ≡ position (λ b. not (is_separator b)) text → is_separator (get_or (drop start text) 0 0) ≡ false
head_other text start e =
    let first = first-position (λ b. not (is_separator b)) text start (sym e) in
    ap (λ rest. is_separator (get_or rest 0 0)) (drop-cons text start 0 first.within) ∙ not-true (is_separator (get_or text start 0)) first.here

true≢false : {A : Type 0} (b : Bool) → b ≡ true → b ≡ false → A
true≢false b e f = absurd (let g : true ≡ false = sym e ∙ f in cc)

-- where one stands there, the first word is what comes before it
pub parts-cut : (text rest : List ℕ) (start end : ℕ) → rest ≡ drop start text → Some start ≡ position (λ b. not (is_separator b)) text
    → Some end ≡ position is_separator rest
    → parts text ≡ take end rest ∷ parts (drop end rest)
parts-cut text rest start end r e f =
    let first = first-position is_separator rest end (sym f) in
    let within : end < length rest = first.within in
    let other : is_separator (get_or rest 0 0) ≡ false = ap (λ t. is_separator (get_or t 0 0)) r ∙ head_other text start e in
    let some : 0 < end = elim (cases_eq end 0) [
      | inl same ↦ true≢false (is_separator (get_or rest 0 0)) (subst (λ n. is_separator (get_or rest n 0) ≡ true) same first.here) other
      | inr differs ↦ omega arith
    ] in
    let few : length (take end rest) ≡ end = length-take-le end rest (omega arith) in
    let word : IsWord (take end rest) =
    λ k d l.
    let below : k < end = omega arith in
    ap is_separator (get_or_default_zero (take end rest) k d l ∙ get_or-take end rest k 0 below) ∙ first.before k below in
    let cons = drop-cons rest end 0 within in
    sym (parts-drop text start e) ∙ ap parts (sym r) ∙ ap parts (sym (take-append-drop end rest)) ∙
    ap (λ behind. parts (take end rest ++ behind)) cons ∙
    parts-front (take end rest) (get_or rest end 0) (drop (suc end) rest) (omega arith) word first.here ∙
    ap (λ more. take end rest ∷ more) (sym (ap parts cons ∙ ap kept (slice_split-cons_yes is_separator (get_or rest end 0) (drop (suc end) rest) first.here)))
