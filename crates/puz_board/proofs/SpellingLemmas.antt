-- A text with no stray byte and no long run has numbers of one or two digits between its separators; and back.
use Rattle.std.proofs.Common.{◌≡◌, ℕ, zero, suc, ◌+◌, ◌<◌, ◌≤◌, true, false, eqb, List, [], ◌∷◌, length, drop, None, Ok, inl, inr, sym, ◌∙◌, ap, ap₂}
use Rattle.std.proofs.Common.{subst, arith, ◌||◌, ◌&&◌}
use Rattle.std.proofs.Math.Bool.{and-false}
use Rattle.std.proofs.lemmas.Bool.{and_parts, cases_Bool, cases_lt, cond-false, cond-true, eqb-false, ltb-false, or_left, or_right}
use Rattle.std.proofs.lemmas.List.{drop_all}
use Rattle.std.proofs.lemmas.List.Elements.{All-cons, All-nil}
use Rattle.std.proofs.lemmas.List.Splits.{slice_split-cons_no, slice_split-cons_yes}
use Rattle.std.specs.Prelude.{All, filter, nat_lt, slice_index}
use Rattle.std.specs.Char.{is_ascii_digit}
use Rattle.std.specs.List.{AllPass, onto_first, slice_split}
use Rattle.puz_board.specs.declared.texts.BoardFault.TheVariants.{B1, B2, B3, B4, B5}
use Rattle.puz_board.specs.Boards.{IsBoard, side_of}
use Rattle.puz_board.specs.BoardTexts.{IsShortNumeral, Spells, board_of_numbers, board_of_text, is_separator, long_run, numbers_in, parts, repeated}
use Rattle.puz_board.specs.BoardTexts.{stray_byte, three_digits_at, too_large}
use Rattle.puz_board.proofs.BoardLemmas.{side_of_count-sized}
use Rattle.puz_board.proofs.FaultLemmas.{IsBoard-from_tests, board_of_numbers-board, board_of_text-is}
use Rattle.puz_board.proofs.FirstLemmas.{first_below-none, position-AllPass}
use Rattle.puz_board.proofs.RefusalLemmas.{refuse_ok, unless_ok}
use Rattle.puz_board.proofs.TextLemmas.{parts-at_one, parts-at_separator, parts-at_two, separator-digit}

-- ---- from the tests to the numerals

IsShortNumeral-one : (a : ℕ) → is_ascii_digit a ≡ true → IsShortNumeral (a ∷ [])
IsShortNumeral-one a e = record { digits = All-cons (λ b. is_ascii_digit b ≡ true) a [] e (All-nil (λ b. is_ascii_digit b ≡ true)); short = omega arith }

IsShortNumeral-two : (a b : ℕ) → is_ascii_digit a ≡ true → is_ascii_digit b ≡ true → IsShortNumeral (a ∷ b ∷ [])
IsShortNumeral-two a b e f = record {
  digits = All-cons (λ d. is_ascii_digit d ≡ true) a (b ∷ []) e (All-cons (λ d. is_ascii_digit d ≡ true) b [] f (All-nil (λ d. is_ascii_digit d ≡ true)));
  short = omega arith;
}

module _ (text : List ℕ) (clean : stray_byte text ≡ None) (short : long_run text ≡ None) where
  numerals_from : (left i : ℕ) → length text ≤ i + left → All IsShortNumeral (parts (drop i text))
  numerals_from zero i enough = subst (All IsShortNumeral) (ap parts (sym (drop_all i text (omega arith)))) (All-nil IsShortNumeral)
  numerals_from (suc left) i enough = elim (cases_lt i (length text)) [
    | inr over ↦ subst (All IsShortNumeral) (ap parts (sym (drop_all i text over))) (All-nil IsShortNumeral)
    | inl l ↦ elim (cases_Bool (is_ascii_digit (slice_index text i))) [
      | inr other ↦ subst (All IsShortNumeral) (sym (parts-at_separator text clean short i l other)) (numerals_from left (i + 1) (omega arith))
      | inl digit ↦ elim (cases_lt (i + 1) (length text)) [
        | inr end ↦ subst (All IsShortNumeral) (sym (parts-at_one text clean short i l digit (λ m. absurd (omega arith))))
            (All-cons IsShortNumeral _ _ (IsShortNumeral-one _ digit) (numerals_from left (i + 1) (omega arith)))
        | inl m ↦ elim (cases_Bool (is_ascii_digit (slice_index text (i + 1)))) [
          | inr other ↦ subst (All IsShortNumeral) (sym (parts-at_one text clean short i l digit (λ m. other)))
              (All-cons IsShortNumeral _ _ (IsShortNumeral-one _ digit) (numerals_from left (i + 1) (omega arith)))
          | inl both ↦ subst (All IsShortNumeral) (sym (parts-at_two text clean short i m digit both))
              (All-cons IsShortNumeral _ _ (IsShortNumeral-two _ _ digit both) (numerals_from left (i + 1 + 1) (omega arith)))
        ]
      ]
    ]
  ]

  -- a text with no stray byte and no long run has numerals of two digits at most alone
  pub numerals-from_tests : All IsShortNumeral (parts text)
  numerals-from_tests = numerals_from (length text) 0 (omega arith)

-- ---- from the numerals to the tests

all_tail : {A : Type 0} (P : A → Type 0) (x : A) (xs : List A) → All P (x ∷ xs) → All P xs
all_tail P x xs all k d l = all (suc k) d (omega arith)

-- an empty part is short too
all_pieces : (pieces : List (List ℕ)) → All IsShortNumeral (filter (λ part. nat_lt 0 (length part)) pieces) → All IsShortNumeral pieces
all_pieces [] all = All-nil IsShortNumeral
all_pieces (part ∷ rest) all = elim (cases_Bool (nat_lt 0 (length part))) [
  | inl some ↦
      let kept = subst (All IsShortNumeral) (cond-true (nat_lt 0 (length part)) (part ∷ others) others some) all in
      All-cons IsShortNumeral part rest (kept 0 part (omega arith)) (all_pieces rest (all_tail IsShortNumeral part others kept))
  | inr none ↦
      let empty = ltb-false 0 (length part) none in
      All-cons IsShortNumeral part rest (record { digits = λ k d l. absurd (omega arith); short = omega arith })
      (all_pieces rest (subst (All IsShortNumeral) (cond-false (nat_lt 0 (length part)) (part ∷ others) others none) all))
]
  where
    others : List (List ℕ)
    others = filter (λ part. nat_lt 0 (length part)) rest

IsShortNumeral-tail : (x : ℕ) (part : List ℕ) → IsShortNumeral (x ∷ part) → IsShortNumeral part
IsShortNumeral-tail x part numeral = record {
  digits = all_tail (λ b. is_ascii_digit b ≡ true) x part numeral.digits;
  short = let s = numeral.short in omega arith;
}

-- without its first byte the first piece is shorter
all_shorter : (x : ℕ) (pieces : List (List ℕ)) → All IsShortNumeral (onto_first x pieces) → All IsShortNumeral pieces
all_shorter x [] all = All-nil IsShortNumeral
all_shorter x (part ∷ rest) all =
    All-cons IsShortNumeral part rest (IsShortNumeral-tail x part (all 0 part (omega arith))) (all_tail IsShortNumeral (x ∷ part) rest all)

first_digit : (x : ℕ) (pieces : List (List ℕ)) → All IsShortNumeral (onto_first x pieces) → is_ascii_digit x ≡ true
first_digit x [] all = let numeral : IsShortNumeral (x ∷ []) = all 0 [] (omega arith) in numeral.digits 0 0 (omega arith)
first_digit x (part ∷ rest) all = let numeral : IsShortNumeral (x ∷ part) = all 0 part (omega arith) in numeral.digits 0 0 (omega arith)

pieces_after : (x : ℕ) (text : List ℕ) → All IsShortNumeral (slice_split is_separator (x ∷ text)) → All IsShortNumeral (slice_split is_separator text)
pieces_after x text all = elim (cases_Bool (is_separator x)) [
  | inl same ↦ all_tail IsShortNumeral [] (slice_split is_separator text) (subst (All IsShortNumeral) (slice_split-cons_yes is_separator x text same) all)
  | inr other ↦ all_shorter x (slice_split is_separator text) (subst (All IsShortNumeral) (slice_split-cons_no is_separator x text other) all)
]

none_stray : (text : List ℕ) → All IsShortNumeral (slice_split is_separator text) → AllPass (λ b. is_ascii_digit b || is_separator b) text
none_stray [] all = All-nil (λ b. (is_ascii_digit b || is_separator b) ≡ true)
none_stray (x ∷ text) all =
    All-cons (λ b. (is_ascii_digit b || is_separator b) ≡ true) x text
    (elim (cases_Bool (is_separator x)) [
      | inl same ↦ or_right (is_ascii_digit x) (is_separator x) same
      | inr other ↦ or_left (is_ascii_digit x) (is_separator x)
          (first_digit x (slice_split is_separator text) (subst (All IsShortNumeral) (slice_split-cons_no is_separator x text other) all))
    ])
    (none_stray text (pieces_after x text all))

three_in_front : (a b c : ℕ) (pieces : List (List ℕ)) → All IsShortNumeral (onto_first a (onto_first b (onto_first c pieces))) → ⊥
three_in_front a b c [] all = let numeral : IsShortNumeral (a ∷ b ∷ c ∷ []) = all 0 [] (omega arith) in let s = numeral.short in omega arith
three_in_front a b c (part ∷ rest) all = let numeral : IsShortNumeral (a ∷ b ∷ c ∷ part) = all 0 part (omega arith) in let s = numeral.short in omega arith

-- three digits in a row stand in one piece
three_apart : (a b c : ℕ) (text : List ℕ) → All IsShortNumeral (slice_split is_separator (a ∷ b ∷ c ∷ text))
    → (is_ascii_digit a && is_ascii_digit b && is_ascii_digit c) ≡ false
three_apart a b c text all = elim (cases_Bool (is_ascii_digit a && is_ascii_digit b && is_ascii_digit c)) [
  | inr other ↦ other
  | inl same ↦
      let two = and_parts (is_ascii_digit a && is_ascii_digit b) (is_ascii_digit c) same in
      let one = and_parts (is_ascii_digit a) (is_ascii_digit b) two.0 in
      let split =
      slice_split-cons_no is_separator a (b ∷ c ∷ text) (separator-digit a one.0) ∙
      ap (onto_first a) (
      slice_split-cons_no is_separator b (c ∷ text) (separator-digit b one.1) ∙
      ap (onto_first b) (slice_split-cons_no is_separator c text (separator-digit c two.1))) in
      absurd (three_in_front a b c (slice_split is_separator text) (subst (All IsShortNumeral) split all))
]

none_long : (text : List ℕ) → All IsShortNumeral (slice_split is_separator text) → (i : ℕ) → i < length text → three_digits_at text i ≡ false
none_long [] all i l = absurd (omega arith)
none_long (a ∷ []) all zero l = and-false (is_ascii_digit a && false)
none_long (a ∷ b ∷ []) all zero l = and-false (is_ascii_digit a && is_ascii_digit b)
none_long (a ∷ b ∷ c ∷ text) all zero l = three_apart a b c text all
none_long (a ∷ text) all (suc i) l =
    let one : suc i + 1 ≡ suc (i + 1) = omega arith in
    let two : suc i + 2 ≡ suc (i + 2) = omega arith in
    ap₂ (λ j k. is_ascii_digit (slice_index text i) && is_ascii_digit (slice_index (a ∷ text) j) && is_ascii_digit (slice_index (a ∷ text) k)) one two ∙
    none_long text (pieces_after a text all) i (omega arith)

module _ (text : List ℕ) (numerals : All IsShortNumeral (parts text)) where
  -- a text of numerals of one or two digits has no stray byte
  pub stray_byte-numerals : stray_byte text ≡ None
  unfolding stray_byte
  stray_byte-numerals = position-AllPass (λ b. is_ascii_digit b || is_separator b) text (none_stray text (all_pieces (slice_split is_separator text) numerals))

  -- a text of numerals of one or two digits has no run of three digits
  pub long_run-numerals : long_run text ≡ None
  unfolding long_run
  long_run-numerals = first_below-none (three_digits_at text) (length text) (none_long text (all_pieces (slice_split is_separator text) numerals))

-- ---- a text that spells a board

-- a text that spells a board is read as this board
pub board_of_text-spelled : (text b : List ℕ) → Spells text b → board_of_text text ≡ Ok b
board_of_text-spelled text b spelled =
    board_of_text-is text None None (sym (stray_byte-numerals text spelled.numerals)) (sym (long_run-numerals text spelled.numerals)) ∙
    ap board_of_numbers spelled.numbers ∙ board_of_numbers-board b spelled.board

-- numbers that are taken are those of a board
pub taken-board_of_numbers : (xs b : List ℕ) → board_of_numbers xs ≡ Ok b → (xs ≡ b) × IsBoard xs
unfolding board_of_numbers
taken-board_of_numbers xs b e =
    let sided = unless_ok (eqb (side_of xs) 0) (B3 (length xs)) _ b e in
    let below = refuse_ok B4 (too_large xs) _ b sided.1 in
    let once = refuse_ok B5 (repeated xs) _ b below.1 in
    let side = side_of_count-sized (length xs) (eqb-false _ _ sided.0) in
    (cc, IsBoard-from_tests xs side.2 side.0 side.1 below.0 once.0)

-- a text that is read as a board with no fault spells this board
pub spelled-board_of_text : (text b : List ℕ) → board_of_text text ≡ Ok b → Spells text b
unfolding board_of_text
spelled-board_of_text text b e =
    let clean = refuse_ok B1 (stray_byte text) _ b e in
    let short = refuse_ok B2 (long_run text) _ b clean.1 in
    let taken = taken-board_of_numbers (numbers_in text) b short.1 in
    record {
      numerals = numerals-from_tests text clean.0 short.0;
      numbers = taken.0;
      board = subst IsBoard taken.0 taken.1;
    }
