-- The numbers of a text, from the front.
use Rattle.std.proofs.Common.{◌≡◌, ℕ, ◌+◌, ◌-◌, ◌*◌, ◌<◌, Bool, true, false, List, [], ◌∷◌, length, map, refl, sym, ◌∙◌, ap, arith, subst, not, ◌||◌}
use Rattle.std.proofs.Common.{◌&&◌, leb, eqb, ne_eqb, lit<, drop, suc, None, inl, inr, ◌≤◌, get_or, set, get_or-set_same, get_or-set_other}
use Rattle.std.proofs.lemmas.Bool.{and_parts, and_from, or_from, leb-true, both_ways, cases_lt, cases_eq}
use Rattle.std.proofs.lemmas.List.{drop_all}
use Rattle.std.proofs.Math.Seq.{drop-cons}
use Rattle.std.proofs.lemmas.List.Splits.{slice_split-cons_yes, slice_split-cons_no}
use Rattle.std.proofs.lemmas.Str.{digit_value_digit}
use Rattle.std.specs.Prelude.{nat_lt, filter, slice_index, ⊤}
use Rattle.std.specs.Char.{digit_value, is_ascii_digit}
use Rattle.std.specs.List.{onto_first}
use Rattle.std.specs.Str.Parse.{digits_value}
use Rattle.puz_board.specs.BoardTexts.{is_separator, long_run, numbers_in, parts, stray_byte, three_digits_at}
use Rattle.puz_board.proofs.FirstLemmas.{fails_below, fails_each}

-- nothing follows, or a separator does
abbrev pub IsParted : List ℕ → Type 0
IsParted [] = ⊤
IsParted (b ∷ text) = is_separator b ≡ true

abbrev kept : List (List ℕ) → List (List ℕ)
kept all = filter (λ part. nat_lt 0 (length part)) all

parts-separator : (b : ℕ) (text : List ℕ) → is_separator b ≡ true → parts (b ∷ text) ≡ parts text
parts-separator b text e = ap kept (slice_split-cons_yes is_separator b text e)

parts-one : (b : ℕ) (text : List ℕ) → is_separator b ≡ false → IsParted text → parts (b ∷ text) ≡ (b ∷ []) ∷ parts text
parts-one b [] e f = ap kept (slice_split-cons_no is_separator b [] e)
parts-one b (c ∷ text) e f =
    ap kept (slice_split-cons_no is_separator b (c ∷ text) e ∙ ap (onto_first b) (slice_split-cons_yes is_separator c text f)) ∙
    ap (λ all. (b ∷ []) ∷ all) (sym (parts-separator c text f))

parts-two : (a b : ℕ) (text : List ℕ) → is_separator a ≡ false → is_separator b ≡ false → IsParted text → parts (a ∷ b ∷ text) ≡ (a ∷ b ∷ []) ∷ parts text
parts-two a b [] d e f = ap kept (slice_split-cons_no is_separator a (b ∷ []) d ∙ ap (onto_first a) (slice_split-cons_no is_separator b [] e))
parts-two a b (c ∷ text) d e f =
    ap kept (
    slice_split-cons_no is_separator a (b ∷ c ∷ text) d ∙
    ap (onto_first a) (slice_split-cons_no is_separator b (c ∷ text) e ∙ ap (onto_first b) (slice_split-cons_yes is_separator c text f))) ∙
    ap (λ all. (a ∷ b ∷ []) ∷ all) (sym (parts-separator c text f))

-- ---- what follows where no byte is stray and no run is long

-- a digit is no separator of a board text
pub separator-digit : (b : ℕ) → is_ascii_digit b ≡ true → is_separator b ≡ false
separator-digit b e =
    let both = and_parts (leb 48 b) (leb b 57) e in
    let low : 48 ≤ b = leb-true 48 b both.0 in
    let ne : (n : ℕ) → n < 48 → eqb b n ≡ false = λ n l. ne_eqb b n (λ q. omega arith) in
    or_from (eqb b 32 || eqb b 9 || eqb b 13) (eqb b 10)
    (or_from (eqb b 32 || eqb b 9) (eqb b 13) (or_from (eqb b 32) (eqb b 9) (ne 32 (lit< tt)) (ne 9 (lit< tt))) (ne 13 (lit< tt))) (ne 10 (lit< tt))

digit_value-digit : (b : ℕ) → is_ascii_digit b ≡ true → digit_value b ≡ b - 48
digit_value-digit b e =
    let both = and_parts (leb 48 b) (leb b 57) e in
    let sum = digit_value_digit b (leb-true 48 b both.0, leb-true b 57 both.1) in
    omega arith

separator-other : (d s : Bool) → not (d || s) ≡ false → d ≡ false → s ≡ true
separator-other d true e f = refl
separator-other true false e f = cc
separator-other false false e f = cc

module _ (text : List ℕ) (clean : stray_byte text ≡ None) (short : long_run text ≡ None) where
  separates : (i : ℕ) → i < length text → is_ascii_digit (slice_index text i) ≡ false → is_separator (slice_index text i) ≡ true
  unfolding stray_byte
  separates i l e = separator-other (is_ascii_digit (slice_index text i)) (is_separator (slice_index text i))
      (fails_each (λ b. not (is_ascii_digit b || is_separator b)) text clean i l) e

  parted : (i : ℕ) → (i < length text → is_ascii_digit (slice_index text i) ≡ false) → IsParted (drop i text)
  parted i e = elim (cases_lt i (length text)) [
    | inl l ↦ subst IsParted (sym (drop-cons text i 0 l)) (separates i l (e l))
    | inr l ↦ subst IsParted (sym (drop_all i text l)) tt
  ]

  no_third : (i : ℕ) → i < length text → is_ascii_digit (slice_index text i) ≡ true → is_ascii_digit (slice_index text (i + 1)) ≡ true
      → is_ascii_digit (slice_index text (i + 2)) ≡ false
  unfolding long_run
  no_third i l e f =
      last_false (is_ascii_digit (slice_index text i)) (is_ascii_digit (slice_index text (i + 1))) (is_ascii_digit (slice_index text (i + 2))) e f
      (fails_below (three_digits_at text) (length text) short i l)
    where
      last_false : (a b d : Bool) → a ≡ true → b ≡ true → (a && b && d) ≡ false → d ≡ false
      last_false a b false e f g = refl
      last_false a b true e f g = absurd (both_ways (a && b && true) g (and_from (a && b) true (and_from a b e f) refl))

  -- a separator adds no part to those of the text behind it
  pub parts-at_separator : (i : ℕ) → i < length text → is_ascii_digit (slice_index text i) ≡ false → parts (drop i text) ≡ parts (drop (i + 1) text)
  parts-at_separator i l e =
      let next : suc i ≡ i + 1 = omega arith in
      ap parts (drop-cons text i 0 l) ∙ parts-separator (slice_index text i) (drop (suc i) text) (separates i l e) ∙ ap (λ k. parts (drop k text)) next

  -- a digit with no digit behind it is a part alone, and the others are those of the text behind it
  pub parts-at_one : (i : ℕ) → i < length text → is_ascii_digit (slice_index text i) ≡ true
      → (i + 1 < length text → is_ascii_digit (slice_index text (i + 1)) ≡ false)
      → parts (drop i text) ≡ (slice_index text i ∷ []) ∷ parts (drop (i + 1) text)
  parts-at_one i l e f =
      let next : suc i ≡ i + 1 = omega arith in
      ap parts (drop-cons text i 0 l ∙ ap (λ k. slice_index text i ∷ drop k text) next) ∙
      parts-one (slice_index text i) (drop (i + 1) text) (separator-digit (slice_index text i) e) (parted (i + 1) f)

  -- two digits in a row are one part, and the others are those of the text behind them
  pub parts-at_two : (i : ℕ) → i + 1 < length text → is_ascii_digit (slice_index text i) ≡ true → is_ascii_digit (slice_index text (i + 1)) ≡ true
      → parts (drop i text) ≡ (slice_index text i ∷ slice_index text (i + 1) ∷ []) ∷ parts (drop (i + 1 + 1) text)
  parts-at_two i l e f =
      let here : i < length text = omega arith in
      let next : suc i ≡ i + 1 = omega arith in
      let over : suc (i + 1) ≡ i + 1 + 1 = omega arith in
      let third : i + 2 ≡ i + 1 + 1 = omega arith in
      ap parts (
      drop-cons text i 0 here ∙ ap (λ k. slice_index text i ∷ drop k text) next ∙
      ap (λ t. slice_index text i ∷ t) (drop-cons text (i + 1) 0 l ∙ ap (λ k. slice_index text (i + 1) ∷ drop k text) over)) ∙
      parts-two (slice_index text i) (slice_index text (i + 1)) (drop (i + 1 + 1) text) (separator-digit (slice_index text i) e)
      (separator-digit (slice_index text (i + 1)) f)
      (parted (i + 1 + 1) (λ m. ap (λ k. is_ascii_digit (slice_index text k)) (sym third) ∙ no_third i here e f))

  -- ---- the numbers that the parts spell

  -- a separator adds no number to those of the text behind it
  pub numbers_of-at_separator : (i : ℕ) → i < length text → is_ascii_digit (slice_index text i) ≡ false
      → numbers_in (drop i text) ≡ numbers_in (drop (i + 1) text)
  unfolding numbers_in
  numbers_of-at_separator i l e = ap (map (digits_value 10)) (parts-at_separator i l e)

  -- a digit with no digit behind it gives its own number, before those of the text behind it
  pub numbers_of-at_one : (i : ℕ) → i < length text → is_ascii_digit (slice_index text i) ≡ true
      → (i + 1 < length text → is_ascii_digit (slice_index text (i + 1)) ≡ false)
      → numbers_in (drop i text) ≡ (slice_index text i - 48) ∷ numbers_in (drop (i + 1) text)
  unfolding numbers_in
  numbers_of-at_one i l e f =
      let first = digit_value-digit (slice_index text i) e in
      let one : 0 * 10 + digit_value (slice_index text i) ≡ slice_index text i - 48 = omega arith in
      ap (map (digits_value 10)) (parts-at_one i l e f) ∙ ap (λ n. n ∷ numbers_in (drop (i + 1) text)) one

  -- two digits in a row give one number, ten times the first and the second, before the others
  pub numbers_of-at_two : (i : ℕ) → i + 1 < length text → is_ascii_digit (slice_index text i) ≡ true → is_ascii_digit (slice_index text (i + 1)) ≡ true
      → numbers_in (drop i text) ≡ (10 * (slice_index text i - 48) + (slice_index text (i + 1) - 48)) ∷ numbers_in (drop (i + 1 + 1) text)
  unfolding numbers_in
  numbers_of-at_two i l e f =
      let first = digit_value-digit (slice_index text i) e in
      let second = digit_value-digit (slice_index text (i + 1)) f in
      let two : (0 * 10 + digit_value (slice_index text i)) * 10 + digit_value
      (slice_index text (i + 1)) ≡ 10 * (slice_index text i - 48) + (slice_index text (i + 1) - 48) = omega arith in
      ap (map (digits_value 10)) (parts-at_two i l e f) ∙ ap (λ n. n ∷ numbers_in (drop (i + 1 + 1) text)) two

-- ---- the next number

-- where the numbers behind the first n begin with v, v is the number with index n
pub next_number : (ns rest : List ℕ) (n v : ℕ) → v ∷ rest ≡ drop n ns → (n + 1 ≤ length ns) × (get_or ns n 0 ≡ v) × (rest ≡ drop (n + 1) ns)
next_number ns rest n v e = elim (cases_lt n (length ns)) [
  | inl l ↦
      let next : suc n ≡ n + 1 = omega arith in
      let cut : v ∷ rest ≡ get_or ns n 0 ∷ drop (suc n) ns = e ∙ drop-cons ns n 0 l in
      let tail : rest ≡ drop (suc n) ns = cc in
      (omega arith, cc, tail ∙ ap (λ k. drop k ns) next)
  | inr l ↦ let none : v ∷ rest ≡ [] = e ∙ drop_all n ns l in cc
]

-- where the n kept numbers are the first ones, so are they when the number with index n is kept too
pub kept_more : (kept ns : List ℕ) (n v : ℕ) → length kept ≡ 25 → get_or ns n 0 ≡ v
    → ((k : ℕ) → k < n → k < 25 → get_or kept k 0 ≡ get_or ns k 0) → (k : ℕ) → k < n + 1 → k < 25 → get_or (set kept n v) k 0 ≡ get_or ns k 0
kept_more kept ns n v room e before k l m = elim (cases_eq k n) [
  | inl q ↦ let here : n < length kept = omega arith in
      ap (λ j. get_or (set kept n v) j 0) q ∙ get_or-set_same kept n v 0 here ∙ sym e ∙ ap (λ j. get_or ns j 0) (sym q)
  | inr q ↦ get_or-set_other kept n k v 0 q ∙ before k (omega arith) m
]

-- there are no numbers in an empty text
pub numbers_of-nothing : numbers_in [] ≡ []
unfolding numbers_in
numbers_of-nothing = refl
