-- The board and the moves in the line that answers a claim are spelt there.
use Rattle.std.proofs.Common.{◌≡◌, ◌∙◌, ◌||◌, ◌<◌, ◌≤◌, ◌*◌, ap, ℕ, Bool, true, false, List, [], ◌∷◌, ◌++◌, append_assoc, arith, codes, cond, decimal}
use Rattle.std.proofs.Common.{eqb, get_or, length, ltb, map, refl, subst, sym}
use Rattle.std.proofs.lemmas.Bool.{and_from, cond-true, le-leb, lt-ltb, ne_eqb, or_from}
use Rattle.std.proofs.lemmas.Fmt.{decimal_is_IsNumeral, length-decimal-le}
use Rattle.std.proofs.lemmas.List.{append-nil}
use Rattle.std.proofs.lemmas.Grind.{get_or_default_zero}
use Rattle.std.proofs.lemmas.List.Elements.{All-cons, All-filter, All-head, All-nil, All-tail}
use Rattle.std.proofs.lemmas.List.Splits.{slice_split-cons_yes, slice_split_at, slice_split_none}
use Rattle.std.proofs.lemmas.Str.Parse.{digit_from_value}
use Rattle.std.specs.Prelude.{⊤, All, filter, nat_lt}
use Rattle.std.specs.Char.{is_ascii_digit}
use Rattle.std.specs.List.{AllPass, list_any, slice_split}
use Rattle.std.specs.Str.Parse.{AllDigits, digits_value}
use Rattle.puz_board.specs.Boards.{IsBoard, side_of}
use Rattle.puz_board.specs.BoardTexts.{IsShortNumeral, Spells, is_separator, numbers_in, parts}
use Rattle.puz_board.specs.Boards.{blank}
use Rattle.puz_board.specs.MovesTexts.{is_letter}
use Rattle.puz_board.specs.Paths.{Leads}
use Rattle.puz_goal.specs.Goals.{IsBoundedFor, SolvesFor}
use Rattle.puz_goal.specs.declared.goals.Goal.{Goal}
use Rattle.puz_board.proofs.BoardLemmas.{cells_most}
use Rattle.claim_text.specs.Claims.{letters, moves}
use Rattle.claim_text.specs.Lines.{claim_words, numbers, spaced_letters}
use Rattle.claim_text.proofs.LetterLemmas.{letters-none, moves_of-letters}
use Rattle.byte_io.specs.Shelf.{Bytes}
use Rattle.pdb_verdict.specs.Bound.{IsBoundedText}
use Rattle.pdb_verdict.specs.Replay.{IsSolvedPuzzle}

-- ---- the parts of a text

-- no byte is a separator
abbrev IsWord : Bytes → Type 0
IsWord word = All (λ b. is_separator b ≡ false) word

-- nothing follows, or a separator does
abbrev IsParted : Bytes → Type 0
IsParted [] = ⊤
IsParted (b ∷ text) = is_separator b ≡ true

abbrev kept : List Bytes → List Bytes
kept all = filter (λ part. nat_lt 0 (length part)) all

kept-some : (word : Bytes) (all : List Bytes) → 0 < length word → kept (word ∷ all) ≡ word ∷ kept all
kept-some word all some = cond-true (ltb 0 (length word)) (word ∷ kept all) (kept all) (lt-ltb 0 (length word) some)

-- a word in front of what is parted from it is the first part
parts-word : (word text : Bytes) → 0 < length word → IsWord word → IsParted text → parts (word ++ text) ≡ word ∷ parts text
parts-word word [] some is parted =
    ap parts (append-nil word) ∙ ap kept (slice_split_none is_separator word is) ∙ kept-some word [] some
parts-word word (b ∷ text) some is parted =
    ap kept (slice_split_at is_separator word b text is parted) ∙ kept-some word (slice_split is_separator text) some ∙
    ap (λ all. word ∷ all) (sym (ap kept (slice_split-cons_yes is_separator b text parted)))

-- ---- the numbers of a board

-- a digit is one, and no separator
digit_clean : (c : ℕ) → (48 ≤ c) × (c ≤ 57) → (is_ascii_digit c ≡ true) × (is_separator c ≡ false)
digit_clean c within =
    let other : (n : ℕ) → n < 48 → eqb c n ≡ false = λ n low. ne_eqb c n (λ same. omega (arith, within.0)) in (
      and_from _ _ (le-leb 48 c within.0) (le-leb c 57 within.1),
      or_from (eqb c 32 || eqb c 9 || eqb c 13) (eqb c 10)
          (or_from (eqb c 32 || eqb c 9) (eqb c 13) (or_from (eqb c 32) (eqb c 9) (other 32 (omega arith)) (other 9 (omega arith)))
          (other 13 (omega arith))) (other 10 (omega arith)),
    )

digits_clean : (ds : Bytes) → AllDigits 10 ds → AllPass is_ascii_digit ds × IsWord ds
digits_clean [] each = (All-nil (λ b. is_ascii_digit b ≡ true), All-nil (λ b. is_separator b ≡ false))
digits_clean (c ∷ ds) each =
    let is = digit_clean c (digit_from_value c each.0) in
    let more = digits_clean ds each.1 in
    (All-cons (λ b. is_ascii_digit b ≡ true) c ds is.0 more.0, All-cons (λ b. is_separator b ≡ false) c ds is.1 more.1)

-- the decimal of a number on a board is one of one or two digits, and a word
record IsCellText (n : ℕ) : Type 0 where
  short : IsShortNumeral (decimal n)
  word : IsWord (decimal n)
  some : 0 < length (decimal n)
  value : digits_value 10 (decimal n) ≡ n

cell_text : (n : ℕ) → n < 25 → IsCellText n
cell_text n low =
    let is = decimal_is_IsNumeral n (omega arith) in
    let clean = digits_clean (decimal n) is.0.1 in
    record {
      short = record { digits = clean.0; short = length-decimal-le 2 n (omega arith) (omega arith) (omega arith) };
      word = clean.1;
      some = is.0.0;
      value = is.1;
    }

-- the decimal of a number on a board begins with a digit
pub digit_first : (n : ℕ) → n < 25 → (digit : ℕ) × (rest : Bytes) × (decimal n ≡ digit ∷ rest) × (48 ≤ digit) × (digit ≤ 57)
digit_first n low = let is = decimal_is_IsNumeral n (omega arith) in go (decimal n) is.0.0 is.0.1
  where
    go : (ds : Bytes) → 0 < length ds → AllDigits 10 ds → (digit : ℕ) × (rest : Bytes) × (ds ≡ digit ∷ rest) × (48 ≤ digit) × (digit ≤ 57)
    go [] some each = absurd (omega (arith, some))
    go (d ∷ ds) some each = let is = digit_from_value d each.0 in (d, ds, refl, is.0, is.1)

module _ (behind : Bytes) (none : parts behind ≡ []) (parted : IsParted behind) where
  parted_numbers : (b : List ℕ) → IsParted (numbers b ++ behind)
  parted_numbers [] = parted
  parted_numbers (n ∷ b) = refl

  -- its numbers are the parts
  parts-numbers : (b : List ℕ) → All IsCellText b → parts (numbers b ++ behind) ≡ map decimal b
  parts-numbers [] each = none
  parts-numbers (n ∷ b) each =
      let is = All-head IsCellText n b each in
      let rest = numbers b ++ behind in
      let whole : numbers (n ∷ b) ++ behind ≡ 32 ∷ (decimal n ++ rest) =
      append_assoc (codes " " ++ decimal n) (numbers b) behind ∙ append_assoc (codes " ") (decimal n) rest in
      ap parts whole ∙ ap kept (slice_split-cons_yes is_separator 32 (decimal n ++ rest) refl) ∙
      parts-word (decimal n) rest is.some is.word (parted_numbers b) ∙
      ap (λ all. decimal n ∷ all) (parts-numbers b (All-tail IsCellText n b each))

  values : (b : List ℕ) → All IsCellText b → map (digits_value 10) (map decimal b) ≡ b
  values [] each = refl
  values (n ∷ b) each =
      let is = All-head IsCellText n b each in
      let more = values b (All-tail IsCellText n b each) in
      λ i. is.value i ∷ more i

  shorts : (b : List ℕ) → All IsCellText b → All IsShortNumeral (map decimal b)
  shorts [] each = All-nil IsShortNumeral
  shorts (n ∷ b) each =
      All-cons IsShortNumeral (decimal n) (map decimal b) (All-head IsCellText n b each).short (shorts b (All-tail IsCellText n b each))

  -- they spell the board
  spelt : (b : List ℕ) → IsBoard b → Spells (numbers b ++ behind) b
  unfolding numbers_in
  spelt b board =
      let most : side_of b * side_of b ≤ 25 = cells_most (side_of b) b board in
      let size = board.size in
      let each : All IsCellText b = λ k d low.
      let below = board.below k (omega (arith, size)) in
      let here = get_or_default_zero b k d low in
      cell_text (get_or b k d) (omega (arith, below, here)) in
      let are = parts-numbers b each in
      record {
        numerals = subst (All IsShortNumeral) (sym are) (shorts b each);
        numbers = ap (map (digits_value 10)) are ∙ values b each;
        board = board;
      }

-- so the numbers of a board spell it
pub numbers_spelt : (b : List ℕ) → IsBoard b → Spells (numbers b) b
numbers_spelt b board = subst (λ text. Spells text b) (append-nil (numbers b)) (spelt [] refl tt b board)

-- and those of a board that is bounded are a text of one
pub numbers_bounded : (goal : Goal) (b : List ℕ) (n : ℕ) → IsBoard b → IsBoundedFor goal b n → IsBoundedText goal (numbers b) n
numbers_bounded goal b n board bounded = (b, numbers_spelt b board, bounded)

-- ---- the letters of moves

-- a space before letters changes nothing
letters_solve : (goal : Goal) (b text : List ℕ) (n : ℕ) → SolvesFor goal b text n → SolvesFor goal b (letters text) n
letters_solve goal b text n solves = record {
  letters = All-filter is_letter (λ byte. (is_letter byte || is_separator byte) ≡ true) text solves.letters;
  path = solves.path;
  led = subst (λ ms. Leads (side_of b) (blank b) ms solves.path) (sym (moves_of-letters text)) solves.led;
  solution = solves.solution;
  count = solves.count;
  few = solves.few;
}

spaced_solve : (goal : Goal) (b text : List ℕ) (n : ℕ) → SolvesFor goal b text n → SolvesFor goal b (32 ∷ text) n
spaced_solve goal b text n solves = record {
  letters = All-cons (λ byte. is_letter byte || is_separator byte ≡ true) 32 text refl solves.letters;
  path = solves.path;
  led = solves.led;
  solution = solves.solution;
  count = solves.count;
  few = solves.few;
}

letters_spaced : (goal : Goal) (b text : List ℕ) (n : ℕ) → SolvesFor goal b text n → SolvesFor goal b (spaced_letters text) n
letters_spaced goal b text n solves = go (list_any is_letter text) refl
  where
    go : (some : Bool) → list_any is_letter text ≡ some → SolvesFor goal b (cond some (codes " " ++ letters text) []) n
    go true is = spaced_solve goal b (letters text) n (letters_solve goal b text n solves)
    go false is = subst (λ t. SolvesFor goal b t n) (letters-none text is) (letters_solve goal b text n solves)

-- so a board and moves that solve it are a puzzle text
words_solve : (goal : Goal) (b text : List ℕ) (n : ℕ) → IsBoard b → SolvesFor goal b text n
    → IsSolvedPuzzle goal (claim_words (record { board = b; asks = moves text })) n
words_solve goal b text n board solves = record {
  board = b;
  board_text = numbers b ++ codes " ";
  moves_text = spaced_letters text;
  whole = sym (append_assoc (numbers b) (codes " ") (codes ";" ++ spaced_letters text));
  spelt = spelt (codes " ") refl refl b board;
  solved = letters_spaced goal b text n solves;
}

-- of which this bound holds, where it does of the board
pub words_optimal : (goal : Goal) (b text : List ℕ) (n : ℕ) → IsBoard b → SolvesFor goal b text n → IsBoundedFor goal b n
    → (solved : IsSolvedPuzzle goal (claim_words (record { board = b; asks = moves text })) n) × IsBoundedFor goal solved.board n
unfolding words_solve
words_optimal goal b text n board solves bounded = (words_solve goal b text n board solves, bounded)
