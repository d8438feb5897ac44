-- Marks of parts, and counts of lines.
use Rattle.std.proofs.Common.{◌≡◌, ℕ, suc, zero, ◌+◌, ◌<◌, ◌≤◌, ◌||◌, ◌&&◌, add-one, Bool, true, false, List, [], ◌∷◌, ◌++◌, cond, eqb, eq-eqb, get_or, set}
use Rattle.std.proofs.Common.{flat_map, length, length-append, not, refl, sym, ◌∙◌, ap, append_assoc, arith, inl, inr, Some}
use mir.Val.{bool_byte}
use Rattle.std.proofs.lemmas.Bool.{cases_eq, ne_eqb}
use Rattle.std.proofs.lemmas.Grind.{flat_map-append, get_or-set_at}
use Rattle.std.proofs.lemmas.List.{append-nil, get_or-set_other}
use Rattle.std.proofs.lemmas.List.Elements.{All-append, All-cons, All-nil, filter-append}
use Rattle.std.proofs.lemmas.List.Folds.{list_any-append}
use Rattle.std.specs.Prelude.{filter}
use Rattle.std.specs.List.{All, list_all, list_any, range_with_len}
use Rattle.std.specs.Str.{bytes_eq}
use Rattle.pdb_parts.specs.Beside.{is_of_search, is_spent, skipped_lines, spent_line, spent_parts}
use Rattle.pdb_parts.specs.Joining.{AreFirstMoves, Refutes, RefutesNot, ShownBoundInParts, are_told, is_told, open_claim, open_claims, part_line}
use Rattle.pdb_parts.specs.Stored.{AreCountsOf, AreMarksOf, IsAnswerOf, holds_in, is_skip, spent_in}
use Rattle.pdb_parts.specs.declared.answers.PartAnswer.{PartAnswer}
use Rattle.pdb_parts.specs.declared.beside.LineCounts.{LineCounts}
use Rattle.pdb_parts.proofs.AnswerLemmas.{or_true}

pub or_false : (b : Bool) → (b || false) ≡ b
or_false true = refl
or_false false = refl

-- ---- one line

-- a mark at an index is there, and the others stay
pub set_marked : (marks : List Bool) (place index : ℕ) → place ≡ index → index < length marks → (i : ℕ)
    → get_or (set marks place true) i false ≡ (get_or marks i false || eqb index i)
set_marked marks place index e below i = elim (cases_eq i index) [
  | inl same ↦
      get_or-set_at marks place i true false (same ∙ sym e) (omega arith) ∙
      sym (ap (λ b. get_or marks i false || b) (eq-eqb index i (sym same)) ∙ or_true (get_or marks i false))
  | inr differs ↦
      get_or-set_other marks place i true false (λ f. differs (f ∙ e)) ∙
      sym (ap (λ b. get_or marks i false || b) (ne_eqb index i (λ f. differs (sym f))) ∙ or_false (get_or marks i false))
]

-- without one they stay too
pub unmarked : (marks : List Bool) (i : ℕ) → get_or marks i false ≡ (get_or marks i false || false)
unmarked marks i = sym (or_false (get_or marks i false))

-- a line more passes a test, or one of those before it
pub any_more : (passes : List ℕ → Bool) (lines : List (List ℕ)) (line : List ℕ)
    → (list_any passes lines || passes line) ≡ list_any passes (lines ++ line ∷ [])
any_more passes lines line =
    ap (λ b. list_any passes lines || b) (sym (or_false (passes line))) ∙ sym (list_any-append passes lines (line ∷ []))

-- the marks with those of a line more
pub marks_more : (holds spent holds_new spent_new : List Bool) (lines : List (List ℕ)) (line : List ℕ) (asked : ShownBoundInParts) (answer : PartAnswer)
    → AreMarksOf holds spent lines asked → IsAnswerOf asked line answer → length holds_new ≡ length holds → length spent_new ≡ length spent
    → ((i : ℕ) → i < length holds → get_or holds_new i false ≡ (get_or holds i false || holds_in answer i))
    → ((i : ℕ) → i < length spent → get_or spent_new i false ≡ (get_or spent i false || spent_in answer i))
    → AreMarksOf holds_new spent_new (lines ++ line ∷ []) asked
marks_more holds spent holds_new spent_new lines line asked answer are is holds_size spent_size marked ended_by =
    let holds_all = are.holds_size in
    let spent_all = are.spent_size in
    record {
      holds_size = holds_size ∙ are.holds_size;
      spent_size = spent_size ∙ are.spent_size;
      told = λ i below.
          marked i (omega arith) ∙ (λ k. are.told i below k || sym (is.holds i below) k)
          ∙ any_more (λ l. bytes_eq l (part_line asked i)) lines line;
      ended = λ i below.
          ended_by i (omega arith) ∙ (λ k. are.ended i below k || sym (is.spent i below) k)
          ∙ any_more (λ l. bytes_eq l (spent_line asked i)) lines line;
    }

one_or_none : (b : Bool) (line : List ℕ) → length (cond b (line ∷ []) []) ≡ bool_byte b
one_or_none true line = refl
one_or_none false line = refl

-- of lines and one more as many are skipped, and one more where that is
skipped_more : (lines : List (List ℕ)) (line : List ℕ) (asked : ShownBoundInParts)
    → length (skipped_lines (lines ++ line ∷ []) asked) ≡ length (skipped_lines lines asked) + bool_byte (not (is_of_search asked line))
skipped_more lines line asked =
    ap length (filter-append (λ l. not (is_of_search asked l)) lines (line ∷ [])) ∙
    length-append (skipped_lines lines asked) (skipped_lines (line ∷ []) asked) ∙
    ap (λ n. length (skipped_lines lines asked) + n) (one_or_none (not (is_of_search asked line)) line)

-- the counts of lines, with one line more
pub counted_line : (before after : LineCounts) (lines : List (List ℕ)) (line : List ℕ) (asked : ShownBoundInParts) (answer : PartAnswer)
    → AreCountsOf before lines asked → IsAnswerOf asked line answer → after.all ≡ before.all + 1 → after.skipped ≡ before.skipped + bool_byte (is_skip answer)
    → AreCountsOf after (lines ++ line ∷ []) asked
counted_line before after lines line asked answer are is all skipped = record {
  all = omega (arith, all, are.all, length-append lines (line ∷ []));
  skipped = omega (arith, skipped, are.skipped, skipped_more lines line asked, ap bool_byte is.skipped);
}

-- the counts of lines, with those of more
pub counted_both : (one more : LineCounts) (lines others : List (List ℕ)) (asked : ShownBoundInParts) (both : LineCounts)
    → AreCountsOf one lines asked → AreCountsOf more others asked → both.all ≡ one.all + more.all → both.skipped ≡ one.skipped + more.skipped
    → AreCountsOf both (lines ++ others) asked
counted_both one more lines others asked both first second all skipped = record {
  all = omega (arith, all, first.all, second.all, length-append lines others);
  skipped =
      omega (
        arith,
        skipped,
        first.skipped,
        second.skipped,
        ap length (filter-append (λ l. not (is_of_search asked l)) lines others),
        length-append (skipped_lines lines asked) (skipped_lines others asked),
      );
}

-- at most one more
pub one_at_most : (b : Bool) → bool_byte b ≤ 1
one_at_most true = omega arith
one_at_most false = omega arith

-- ---- moves that lines show

-- none of lines shows any, nor does one more
pub none_more : (asked : ShownBoundInParts) (lines : List (List ℕ)) (line : List ℕ) → All (RefutesNot asked) lines → RefutesNot asked line
    → All (RefutesNot asked) (lines ++ line ∷ [])
none_more asked lines line none last =
    All-append (RefutesNot asked) lines (line ∷ []) none (All-cons (RefutesNot asked) line [] last (All-nil (RefutesNot asked)))

-- behind lines that show none, the first of more lines are the first of all
pub first_behind : (asked : ShownBoundInParts) (lines more : List (List ℕ)) (moves : List ℕ) → All (RefutesNot asked) lines
    → AreFirstMoves asked more (Some moves) → AreFirstMoves asked (lines ++ more) (Some moves)
first_behind asked lines more moves none first = (
  lines ++ first.0,
  first.1,
  first.2,
  ap (λ (all : List (List ℕ)). lines ++ all) first.3 ∙ sym (append_assoc lines first.0 (first.1 ∷ first.2)),
  All-append (RefutesNot asked) lines first.0 none first.4,
  first.5,
)

-- and the first of lines stay the first, whatever is behind these
pub first_before : (asked : ShownBoundInParts) (lines more : List (List ℕ)) (moves : List ℕ) → AreFirstMoves asked lines (Some moves)
    → AreFirstMoves asked (lines ++ more) (Some moves)
first_before asked lines more moves first = (
  first.0,
  first.1,
  first.2 ++ more,
  ap (λ (all : List (List ℕ)). all ++ more) first.3 ∙ append_assoc first.0 (first.1 ∷ first.2) more,
  first.4,
  first.5,
)

-- a line that shows moves, behind lines that show none
pub first_line : (asked : ShownBoundInParts) (lines behind : List (List ℕ)) (line moves : List ℕ) → All (RefutesNot asked) lines → Refutes asked line moves
    → AreFirstMoves asked (lines ++ line ∷ behind) (Some moves)
first_line asked lines behind line moves none refutes = (lines, line, behind, refl, none, refutes)

-- ---- the numbers from 0 on

range_more : (a n : ℕ) → range_with_len a (suc n) ≡ range_with_len a n ++ (a + n) ∷ []
range_more a zero = let same : a ≡ a + 0 = omega arith in ap (λ k. k ∷ []) same
range_more a (suc n) = let same : a + 1 + n ≡ a + suc n = omega arith in
    ap (λ xs. a ∷ xs) (range_more (a + 1) n ∙ ap (λ k. range_with_len (a + 1) n ++ k ∷ []) same)

-- those that pass, with one number more
pub passing_more : (p : ℕ → Bool) (n : ℕ) → filter p (range_with_len 0 (n + 1)) ≡ filter p (range_with_len 0 n) ++ cond (p n) (n ∷ []) []
passing_more p n =
    let last : 0 + n ≡ n = omega arith in
    ap (λ k. filter p (range_with_len 0 k)) (add-one n)
    ∙ ap (filter p) (range_more 0 n ∙ ap (λ k. range_with_len 0 n ++ k ∷ []) last) ∙ filter-append p (range_with_len 0 n) (n ∷ [])

-- their texts
pub left_more : (f : ℕ → List ℕ) (p : ℕ → Bool) (n : ℕ)
    → flat_map f (filter p (range_with_len 0 (n + 1))) ≡ flat_map f (filter p (range_with_len 0 n)) ++ cond (p n) (f n) []
left_more f p n =
    ap (flat_map f) (passing_more p n) ∙ flat_map-append f (filter p (range_with_len 0 n)) (cond (p n) (n ∷ []) []) ∙
    ap (λ text. flat_map f (filter p (range_with_len 0 n)) ++ text) (one (p n))
  where
    one : (b : Bool) → flat_map f (cond b (n ∷ []) []) ≡ cond b (f n) []
    one true = append-nil (f n)
    one false = refl

-- how many they are
pub count_more : (p : ℕ → Bool) (n : ℕ) (b : Bool) → p n ≡ b
    → length (filter p (range_with_len 0 (n + 1))) ≡ length (filter p (range_with_len 0 n)) + bool_byte b
count_more p n b is =
    ap length (passing_more p n) ∙ length-append (filter p (range_with_len 0 n)) (cond (p n) (n ∷ []) []) ∙
    ap (λ k. length (filter p (range_with_len 0 n)) + k) (one (p n) ∙ ap bool_byte is)
  where
    one : (b : Bool) → length (cond b (n ∷ []) []) ≡ bool_byte b
    one true = refl
    one false = refl

-- tests that agree below n leave the same numbers
pub filter_same : (p q : ℕ → Bool) (a n : ℕ) → ((i : ℕ) → a ≤ i → i < a + n → p i ≡ q i) → filter p (range_with_len a n) ≡ filter q (range_with_len a n)
filter_same p q a zero same = refl
filter_same p q a (suc n) same =
    (λ i. cond (same a (omega arith) (omega arith) i) (a ∷ filter p (range_with_len (a + 1) n)) (filter p (range_with_len (a + 1) n))) ∙
    ap (λ ns. cond (q a) (a ∷ ns) ns) (filter_same p q (a + 1) n (λ i low high. same i (omega arith) (omega arith)))

-- and all of them pass the one where they pass the other
pub all_same : (p : ℕ → Bool) (told : List Bool) (a : ℕ) → ((i : ℕ) → i < length told → get_or told i false ≡ p (a + i))
    → list_all (λ b. b) told ≡ list_all p (range_with_len a (length told))
all_same p [] a same = refl
all_same p (b ∷ told) a same =
    let first : a + 0 ≡ a = omega arith in
    (λ i. (same 0 (omega arith) ∙ ap p first) i && all_same p told (a + 1) (λ k below. let next : a + suc k ≡ a + 1 + k = omega arith in
    same (suc k) (omega arith) ∙ ap p next) i)

-- ---- what the marks of all lines say

module _ (lines : List (List ℕ)) (asked : ShownBoundInParts) (holds spent : List Bool) (are : AreMarksOf holds spent lines asked) where
  -- all parts have a mark where lines say so of all
  pub all_told : list_all (λ b. b) holds ≡ are_told lines asked
  all_told =
      let size = are.holds_size in
      all_same (is_told lines asked) holds 0 (λ i below. let same : 0 + i ≡ i = omega arith in
      are.told i (omega (arith, size)) ∙ ap (is_told lines asked) (sym same)) ∙
      ap (λ n. list_all (is_told lines asked) (range_with_len 0 n)) size

  -- those without one are open
  pub left_open : flat_map (open_claim asked) (filter (λ i. not (get_or holds i false)) (range_with_len 0 asked.count)) ≡ open_claims lines asked
  left_open =
      ap (flat_map (open_claim asked)) (filter_same (λ i. not (get_or holds i false)) (λ i. not (is_told lines asked i)) 0 asked.count
      (λ i low high. ap not (are.told i (omega arith))))

  -- and those of them with the other mark had their search ended
  pub ended_open : length (filter (λ i. not (get_or holds i false) && get_or spent i false) (range_with_len 0 (length holds)))
      ≡ length (spent_parts lines asked)
  ended_open =
      ap (λ n. length (filter (λ i. not (get_or holds i false) && get_or spent i false) (range_with_len 0 n))) are.holds_size ∙
      ap length (filter_same (λ i. not (get_or holds i false) && get_or spent i false) (λ i. not (is_told lines asked i) && is_spent lines asked i)
      0 asked.count (λ i low high. let below : i < asked.count = omega arith in λ k. not (are.told i below k) && are.ended i below k))
