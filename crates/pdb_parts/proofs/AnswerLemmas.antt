-- What a line tells of a bound in parts.
use Rattle.std.proofs.Common.{◌≡◌, ℕ, ◌+◌, ◌<◌, ◌||◌, Bool, true, false, List, [], ◌∷◌, ◌++◌, codes, drop, eqb, eq-eqb, get_or, not, refl, sym, ◌∙◌}
use Rattle.std.proofs.Common.{ap, arith, inl, inr, subst, take}
use Rattle.std.proofs.lemmas.Bool.{cases_Bool, cases_eq, ne_eqb, not_from_false}
use Rattle.std.proofs.lemmas.Bool.Decides.{Decides-eqb}
use Rattle.std.proofs.lemmas.List.Elements.{All-append, All-cons, All-head, All-nil, All-tail}
use Rattle.std.proofs.lemmas.List.Folds.{list_any_at, list_any_none}
use Rattle.std.proofs.lemmas.List.FromFn.{get_or-range_with_len, length-range_with_len}
use Rattle.std.proofs.lemmas.List.Sums.{AllPass-from_list_all}
use Rattle.std.proofs.lemmas.Slice.Eq.{bytes_eq-Decides, starts_is}
use Rattle.std.specs.List.{AllPass, list_all, range_with_len}
use Rattle.std.specs.Str.{bytes_eq}
use Rattle.puz_board.specs.BoardTexts.{is_separator}
use Rattle.puz_board.specs.MovesTexts.{is_letter}
use Rattle.puz_goal.specs.Goals.{SolvesFor}
use Rattle.claim_text.specs.Claims.{HasNo}
use Rattle.claim_text.specs.Lines.{refused, told_line}
use Rattle.pdb_parts.specs.Beside.{is_aside, is_digest, is_one_of, spent_line, unsolved_line}
use Rattle.pdb_parts.specs.Joining.{Refutes, RefutesNot, ShownBoundInParts, claim_of, part_line}
use Rattle.pdb_parts.specs.Stored.{IsAnswerOf}
use Rattle.pdb_parts.specs.declared.answers.PartAnswer.TheVariants.{Holds, Other, Skipped, Spent}

pub head_of : ℕ → List ℕ → ℕ
head_of d [] = d
head_of d (x ∷ xs) = x

-- bytes that differ are told apart
pub other_bytes : (a b : List ℕ) → ¬ (a ≡ b) → bytes_eq a b ≡ false
other_bytes a b differ = elim (cases_Bool (bytes_eq a b)) [
  | inl same ↦ absurd (differ ((bytes_eq-Decides a b).0 same))
  | inr other ↦ other
]

pub or_true : (b : Bool) → (b || true) ≡ true
or_true true = refl
or_true false = refl

-- ---- a line among those of indices

module _ (line_of : ℕ → List ℕ) (count : ℕ) (line : List ℕ) where
  abbrev is_of : ℕ → Bool
  is_of index = bytes_eq line (line_of index)

  -- it is that of one
  pub one_is : (index : ℕ) → index < count → line ≡ line_of index → is_one_of line_of count line ≡ true
  one_is index below is =
      let range = range_with_len 0 count in
      let place : 0 + index ≡ index = omega arith in
      let here : get_or range index 0 ≡ index = get_or-range_with_len 0 count index 0 below ∙ place in
      list_any_at is_of range index 0 (omega (arith, below, length-range_with_len 0 count))
      (ap is_of here ∙ (bytes_eq-Decides line (line_of index)).1 is)

  -- or of none
  pub none_is : ((index : ℕ) → index < count → ¬ (line ≡ line_of index)) → is_one_of line_of count line ≡ false
  none_is other =
      list_any_none is_of (range_with_len 0 count) (λ k d l.
      let below : k < count = omega (arith, l, length-range_with_len 0 count) in
      let place : 0 + k ≡ k = omega arith in
      ap is_of (get_or-range_with_len 0 count k d below ∙ place) ∙ other_bytes line (line_of k) (other k below))

  -- of one index alone
  pub of_one : (index : ℕ) → line ≡ line_of index → ((j : ℕ) → j < count → line ≡ line_of j → j ≡ index) → (j : ℕ) → j < count
      → bytes_eq line (line_of j) ≡ eqb index j
  of_one index is one j below = elim (cases_eq index j) [
    | inl same ↦ (bytes_eq-Decides line (line_of j)).1 (is ∙ ap line_of same) ∙ sym (eq-eqb index j same)
    | inr differs ↦ other_bytes line (line_of j) (λ e. differs (sym (one j below e))) ∙ sym (ne_eqb index j differs)
  ]

-- ---- what claims are refused for

-- letters and separators have no `o`
pub letters_no_o : (text : List ℕ) → AllPass (λ byte. is_letter byte || is_separator byte) text → HasNo 111 text
letters_no_o [] all = All-nil (λ b. not (eqb b 111) ≡ true)
letters_no_o (x ∷ xs) all =
    let first = All-head (λ byte. (is_letter byte || is_separator byte) ≡ true) x xs all in
    All-cons (λ b. not (eqb b 111) ≡ true) x xs
    (not_from_false (eqb x 111) (ne_eqb x 111 (λ same. let no : false ≡ true = subst (λ n. (is_letter n || is_separator n) ≡ true) same first in cc)))
    (letters_no_o xs (All-tail (λ byte. (is_letter byte || is_separator byte) ≡ true) x xs all))

known : (text : List ℕ) → list_all (λ b. not (eqb b 111)) text ≡ true → HasNo 111 text
known text all = AllPass-from_list_all (λ b. not (eqb b 111)) text all

-- nor has what `prove` refuses the claims of parts for
pub k1_no : HasNo 111 (codes "refused K1")
k1_no = known (codes "refused K1") refl

pub k2_no : HasNo 111 (codes "refused K2")
k2_no = known (codes "refused K2") refl

pub moves_no : (moves : List ℕ) → AllPass (λ byte. is_letter byte || is_separator byte) moves → HasNo 111 (codes "refused O2 by" ++ moves)
moves_no moves all =
    All-append (λ b. not (eqb b 111) ≡ true) (codes "refused O2 by") moves (known (codes "refused O2 by") refl) (letters_no_o moves all)

-- ---- a line that says nothing

-- it begins as no answer does, neither by `p` nor by `r`
pub record BeginsAside (line : List ℕ) : Type 0 where
  pub no_part : ¬ (head_of 0 line ≡ 112)
  pub no_refusal : ¬ (head_of 0 line ≡ 114)

begins_by : (line : List ℕ) (first : ℕ) → head_of 0 line ≡ first → ¬ (first ≡ 112) → ¬ (first ≡ 114) → BeginsAside line
begins_by line first is no_p no_r = record { no_part = λ p. no_p (sym is ∙ p); no_refusal = λ r. no_r (sym is ∙ r) }

pub begins_aside : (line : List ℕ) → is_aside line ≡ true → BeginsAside line
unfolding head_of
begins_aside line is =
    go (is_digest line) (bytes_eq (codes "#") (take 1 line)) (bytes_eq line (codes "\n")) refl refl refl is
  where
    go : (digest remark empty : Bool) → is_digest line ≡ digest → bytes_eq (codes "#") (take 1 line) ≡ remark → bytes_eq line (codes "\n") ≡ empty
        → ((digest || remark) || empty) ≡ true → BeginsAside line
    go true remark empty d r e any =
        let front : line ≡ codes "sha256 " ++ drop 7 line = (starts_is Decides-eqb line (codes "sha256 ") (is_digest line) refl).0 d in
        begins_by line 115 (ap (head_of 0) front) (λ no. omega (arith, no)) (λ no. omega (arith, no))
    go false true empty d r e any =
        let front : line ≡ codes "#" ++ drop 1 line = (starts_is Decides-eqb line (codes "#") (bytes_eq (codes "#") (take 1 line)) refl).0 r in
        begins_by line 35 (ap (head_of 0) front) (λ no. omega (arith, no)) (λ no. omega (arith, no))
    go false false true d r e any =
        begins_by line 10 (ap (head_of 0) ((bytes_eq-Decides line (codes "\n")).0 e)) (λ no. omega (arith, no)) (λ no. omega (arith, no))
    go false false false d r e any = absurd (let no : false ≡ true = any in cc)

-- ---- what the line tells

module _ (asked : ShownBoundInParts) (line : List ℕ) where
  -- the line is that of no part which holds
  abbrev pub IsNoPart : Type 0
  IsNoPart = (j : ℕ) → j < asked.count → ¬ (line ≡ part_line asked j)

  -- it refuses the claim of this part alone, and for this alone
  abbrev pub IsAloneFor : List ℕ → ℕ → Type 0
  IsAloneFor what i = (other : List ℕ) (j : ℕ) → HasNo 111 other → j < asked.count → line ≡ told_line asked.goal (refused other (claim_of asked j))
      → (other ≡ what) × (j ≡ i)

  -- the parts of a test of four
  first_of : (a b c d : Bool) → a ≡ true → not (((a || b) || c) || d) ≡ false
  first_of a b c d is = ap (λ x. not (((x || b) || c) || d)) is

  second_of : (a b c d : Bool) → b ≡ true → not (((a || b) || c) || d) ≡ false
  second_of a b c d is = ap (λ x. not (((a || x) || c) || d)) is ∙ ap (λ x. not ((x || c) || d)) (or_true a)

  third_of : (a b c d : Bool) → c ≡ true → not (((a || b) || c) || d) ≡ false
  third_of a b c d is = ap (λ x. not (((a || b) || x) || d)) is ∙ ap (λ x. not (x || d)) (or_true (a || b))

  last_of : (a b c d : Bool) → d ≡ true → not (((a || b) || c) || d) ≡ false
  last_of a b c d is = ap (λ x. not (((a || b) || c) || x)) is ∙ ap not (or_true ((a || b) || c))

  none_of : (a b c d : Bool) → a ≡ false → b ≡ false → c ≡ false → d ≡ false → not (((a || b) || c) || d) ≡ true
  none_of a b c d p q r s = λ i. not (((p i || q i) || r i) || s i)

  abbrev a : Bool
  a = is_one_of (part_line asked) asked.count line

  abbrev b : Bool
  b = is_one_of (spent_line asked) asked.count line

  abbrev c : Bool
  c = is_one_of (unsolved_line asked) asked.count line

  -- it says nothing
  pub aside_answer : is_aside line ≡ true → IsAnswerOf asked line Other
  unfolding head_of
  aside_answer is =
      let begins = begins_aside line is in
      record {
        none = λ moves refutes. begins.no_refusal (ap (head_of 0) refutes.is);
        below = tt;
        holds = λ i below. other_bytes line (part_line asked i) (λ same. begins.no_part (ap (head_of 0) same));
        spent = λ i below. other_bytes line (spent_line asked i) (λ same. begins.no_refusal (ap (head_of 0) same));
        skipped = last_of a b c (is_aside line) is;
      }

  -- of a part that holds
  pub part_answer : (i : ℕ) → i < asked.count → line ≡ part_line asked i
      → ((j : ℕ) → j < asked.count → line ≡ part_line asked j → j ≡ i) → IsAnswerOf asked line (Holds i)
  unfolding head_of
  part_answer i below is one = record {
    none = λ moves refutes. let first : 112 ≡ 114 = ap (head_of 0) (sym is ∙ refutes.is) in absurd (omega (arith, first));
    below = below;
    holds = of_one (part_line asked) asked.count line i is one;
    spent = λ j within. other_bytes line (spent_line asked j)
        (λ same. let first : 112 ≡ 114 = ap (head_of 0) (sym is ∙ same) in absurd (omega (arith, first)));
    skipped = first_of a b c (is_aside line) (one_is (part_line asked) asked.count line i below is);
  }

  -- of moves that are fewer
  pub moves_refute : (what moves : List ℕ) (i n : ℕ) → i < asked.count → line ≡ told_line asked.goal (refused what (claim_of asked i))
      → what ≡ codes "refused O2 by" ++ moves → SolvesFor asked.goal asked.board moves n → n < asked.bound → Refutes asked line moves
  moves_refute what moves i n below is words solves fewer = record {
    index = i;
    below = below;
    is = is ∙ ap (λ (w : List ℕ). told_line asked.goal (refused w (claim_of asked i))) words;
    count = n;
    solves = solves;
    fewer = fewer;
  }

  -- where it is that of none that holds
  module _ (no_part : IsNoPart) where
    part_none : (i : ℕ) → i < asked.count → bytes_eq line (part_line asked i) ≡ false
    part_none i below = other_bytes line (part_line asked i) (no_part i below)

    -- of a part whose search a budget ended
    pub spent_answer : (i : ℕ) → i < asked.count → line ≡ spent_line asked i → IsAloneFor (codes "refused K1") i → IsAnswerOf asked line (Spent i)
    unfolding head_of
    spent_answer i below is alone = record {
      none = λ moves refutes.
          let same = (alone (codes "refused O2 by" ++ moves) refutes.index (moves_no moves refutes.solves.letters) refutes.below refutes.is).0 in
          let letter : 79 ≡ 75 = ap (λ (t : List ℕ). head_of 0 (drop 8 t)) same in absurd (omega (arith, letter));
      below = below;
      holds = part_none;
      spent = of_one (spent_line asked) asked.count line i is (λ j within same. (alone (codes "refused K1") j k1_no within same).1);
      skipped = second_of a b c (is_aside line) (one_is (spent_line asked) asked.count line i below is);
    }

    -- of one whose board has no solution
    pub unsolved_answer : (i : ℕ) → i < asked.count → line ≡ unsolved_line asked i → IsAloneFor (codes "refused K2") i → IsAnswerOf asked line Other
    unfolding head_of
    unsolved_answer i below is alone = record {
      none = λ moves refutes.
          let same = (alone (codes "refused O2 by" ++ moves) refutes.index (moves_no moves refutes.solves.letters) refutes.below refutes.is).0 in
          let letter : 79 ≡ 75 = ap (λ (t : List ℕ). head_of 0 (drop 8 t)) same in absurd (omega (arith, letter));
      below = tt;
      holds = part_none;
      spent = λ j within. other_bytes line (spent_line asked j)
          (λ same.
          let words = (alone (codes "refused K1") j k1_no within same).0 in
          let digit : 49 ≡ 50 = ap (λ (t : List ℕ). head_of 0 (drop 9 t)) words in absurd (omega (arith, digit)));
      skipped = third_of a b c (is_aside line) (one_is (unsolved_line asked) asked.count line i below is);
    }

    -- or of nothing that a search says of the parts
    pub skipped_answer : is_aside line ≡ false → ((j : ℕ) → j < asked.count → ¬ (line ≡ spent_line asked j))
        → ((j : ℕ) → j < asked.count → ¬ (line ≡ unsolved_line asked j)) → RefutesNot asked line → IsAnswerOf asked line Skipped
    skipped_answer no_aside no_spent no_unsolved none = record {
      none = none;
      below = tt;
      holds = part_none;
      spent = λ i below. other_bytes line (spent_line asked i) (no_spent i below);
      skipped = none_of a b c (is_aside line) (none_is (part_line asked) asked.count line no_part)
          (none_is (spent_line asked) asked.count line no_spent) (none_is (unsolved_line asked) asked.count line no_unsolved) no_aside;
    }

    -- so it is where the line refuses no claim of a part
    pub no_claim_answer : is_aside line ≡ false
        → ((what : List ℕ) (j : ℕ) → HasNo 111 what → j < asked.count → ¬ (line ≡ told_line asked.goal (refused what (claim_of asked j))))
        → IsAnswerOf asked line Skipped
    no_claim_answer no_aside none =
        skipped_answer no_aside (λ j below. none (codes "refused K1") j k1_no below) (λ j below. none (codes "refused K2") j k2_no below)
        (λ moves refutes. none (codes "refused O2 by" ++ moves) refutes.index (moves_no moves refutes.solves.letters) refutes.below refutes.is)

    -- and where it refuses one for something else
    pub other_claim_answer : (what : List ℕ) (i : ℕ) → is_aside line ≡ false → IsAloneFor what i → ¬ (what ≡ codes "refused K1") → ¬ (what ≡ codes "refused K2")
        → ((moves : List ℕ) (n : ℕ) → what ≡ codes "refused O2 by" ++ moves → SolvesFor asked.goal asked.board moves n → ¬ (n < asked.bound))
        → IsAnswerOf asked line Skipped
    other_claim_answer what i no_aside alone no_k1 no_k2 no_moves =
        skipped_answer no_aside
        (λ j below is. no_k1 (sym (alone (codes "refused K1") j k1_no below is).0))
        (λ j below is. no_k2 (sym (alone (codes "refused K2") j k2_no below is).0))
        (λ moves refutes.
        let same = (alone (codes "refused O2 by" ++ moves) refutes.index (moves_no moves refutes.solves.letters) refutes.below refutes.is).0 in
        no_moves moves refutes.count (sym same) refutes.solves refutes.fewer)
