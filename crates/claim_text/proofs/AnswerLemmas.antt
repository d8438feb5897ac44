-- The lines that answer claims.
use Rattle.std.proofs.Common.{◌≡◌, ℕ, suc, ◌+◌, ◌*◌, ◌<◌, ◌≤◌, Bool, true, false, List, [], ◌∷◌, ◌++◌, append_assoc, append-nil, None}
use Rattle.std.proofs.Common.{cond, length, length-append, get_or, take, drop, eqb, not, refl, sym, ◌∙◌, ap, subst, arith, codes, decimal, inl}
use Rattle.std.proofs.Common.{inr, lit<}
use Rattle.std.proofs.Math.Seq.{drop-cons}
use Rattle.std.proofs.lemmas.Bool.{cases_lt, cond-false, cond-true, ne_eqb, not_from_false}
use Rattle.std.proofs.lemmas.Fmt.{length-decimal-le}
use Rattle.std.proofs.lemmas.List.{take-append-drop, take_more}
use Rattle.std.proofs.lemmas.List.Concat.{flat_map-append}
use Rattle.std.proofs.lemmas.List.Elements.{All-append, All-cons, All-nil, filter-append}
use Rattle.std.proofs.lemmas.List.Sums.{AllPass-from_list_all}
use Rattle.std.specs.Prelude.{is_some}
use Rattle.std.specs.List.{list_all, list_any}
use Rattle.puz_board.specs.Boards.{IsBoard, at, side_of, side_of_count}
use Rattle.puz_board.specs.Cells.{move_of_letter}
use Rattle.puz_board.specs.MovesTexts.{is_letter}
use Rattle.puz_board.proofs.BoardLemmas.{cells_most}
use Rattle.puz_goal.specs.declared.goals.Goal.{Goal}
use Rattle.puz_goal.specs.declared.goals.Goal.TheVariants.{First, Last}
use Rattle.puz_goal.specs.Goals.{goal_words}
use Rattle.move_strings.specs.BoundParts.{ShownPart}
use Rattle.claim_text.specs.Claims.{HasNo, ShownAsks, ShownClaim, bound, letters, moves, part, part_words, shortest}
use Rattle.claim_text.specs.Laws.{AnswersAreLines, AnswersBegin}
use Rattle.claim_text.specs.Lines.{Told, WhatHasNoLf, asks_words, beginning, bounded, claim_words, numbers, optimal, part_bounded, refused, shorter}
use Rattle.claim_text.specs.Lines.{spaced_letters, told_words}
use Rattle.claim_text.proofs.DecimalLemmas.{decimal-no}

-- ---- how much room they take

-- a board has 25 cells at most, and each number has two digits at most
pub cell_short : (b : List ℕ) (n c : ℕ) → IsBoard b → n ≡ side_of b → c < n * n → (c < 25) × (length (decimal (at b c)) ≤ 2) × (c < length b)
cell_short b n c board side within =
    let most : side_of b * side_of b ≤ 25 = cells_most (side_of b) b board in
    let here : c < side_of b * side_of b = subst (λ k. c < k * k) side within in
    let below : at b c < side_of b * side_of b = board.below c here in
    let size : length b ≡ side_of b * side_of b = board.size in
    (omega arith, length-decimal-le 2 (at b c) (omega arith) (omega arith) (omega arith), omega arith)

-- a number more
pub numbers-more : (front b : List ℕ) (c : ℕ) → c < length b
    → ((front ++ numbers (take c b)) ++ codes " ") ++ decimal (at b c) ≡ front ++ numbers (take (c + 1) b)
numbers-more front b c within =
    append_assoc (front ++ numbers (take c b)) (codes " ") (decimal (at b c)) ∙ append_assoc front (numbers (take c b)) (codes " " ++ decimal (at b c)) ∙
    ap (λ text. front ++ text)
    (sym (ap numbers (take_more b c 0 within) ∙ flat_map-append (λ n. codes " " ++ decimal n) (take c b) (at b c ∷ []) ∙
    ap (λ text. numbers (take c b) ++ (codes " " ++ text)) (append-nil (decimal (at b c)))))

-- no board is empty
pub no_side : ¬ (2 ≤ side_of [])
unfolding side_of_count
no_side low = omega arith

-- a board has a number, and so its words a space before them
pub spaced_front : (b more : List ℕ) → IsBoard b → (rest : List ℕ) × (numbers b ++ more ≡ 32 ∷ rest)
spaced_front [] more board = absurd (let low : 2 ≤ side_of [] = board.low in no_side low)
spaced_front (n ∷ ns) more board = ((decimal n ++ numbers ns) ++ more, refl)

-- ---- no LF but at the end

-- a decimal has no LF
pub decimal-no_lf : (n : ℕ) → HasNo 10 (decimal n)
decimal-no_lf n = decimal-no 10 n (lit< tt)

-- a text that is known has none where that is computed
known : (text : List ℕ) → list_all (λ b. not (eqb b 10)) text ≡ true → HasNo 10 text
known text all = AllPass-from_list_all (λ b. not (eqb b 10)) text all

-- two texts without an LF have none together
pub join_no_lf : (a b : List ℕ) → HasNo 10 a → HasNo 10 b → HasNo 10 (a ++ b)
join_no_lf a b p q = All-append (λ byte. not (eqb byte 10) ≡ true) a b p q

-- nor have the numbers of a board
pub numbers-no_lf : (b : List ℕ) → HasNo 10 (numbers b)
numbers-no_lf [] = All-nil (λ b. not (eqb b 10) ≡ true)
numbers-no_lf (n ∷ b) = join_no_lf (codes " " ++ decimal n) (numbers b)
    (join_no_lf (codes " ") (decimal n) (known (codes " ") refl) (decimal-no_lf n)) (numbers-no_lf b)

letter_other : (x : ℕ) → is_letter x ≡ true → eqb x 10 ≡ false
letter_other x e = ne_eqb x 10 (λ same. let no : false ≡ true = subst (λ n. is_letter n ≡ true) same e in cc)

letters-no_lf : (text : List ℕ) → HasNo 10 (letters text)
letters-no_lf [] = All-nil (λ b. not (eqb b 10) ≡ true)
letters-no_lf (x ∷ xs) = go (is_letter x) refl (letters-no_lf xs)
  where
    go : (b : Bool) → is_letter x ≡ b → HasNo 10 (letters xs) → HasNo 10 (cond b (x ∷ letters xs) (letters xs))
    go true e rest = All-cons (λ b. not (eqb b 10) ≡ true) x (letters xs) (not_from_false (eqb x 10) (letter_other x e)) rest
    go false e rest = rest

spaced-no_lf : (text : List ℕ) → HasNo 10 (spaced_letters text)
spaced-no_lf text = go (list_any is_letter text)
  where
    go : (b : Bool) → HasNo 10 (cond b (codes " " ++ letters text) [])
    go true = join_no_lf (codes " ") (letters text) (known (codes " ") refl) (letters-no_lf text)
    go false = All-nil (λ b. not (eqb b 10) ≡ true)

part-no_lf : (p : ShownPart) → HasNo 10 (part_words p)
part-no_lf p = join_no_lf (decimal p.index ++ codes "/") (decimal p.count)
    (join_no_lf (decimal p.index) (codes "/") (decimal-no_lf p.index) (known (codes "/") refl)) (decimal-no_lf p.count)

asks-no_lf : (asks : ShownAsks) → HasNo 10 (asks_words asks)
asks-no_lf shortest = All-nil (λ b. not (eqb b 10) ≡ true)
asks-no_lf (moves text) = join_no_lf (codes " ;") (spaced_letters text) (known (codes " ;") refl) (spaced-no_lf text)
asks-no_lf (bound n) = join_no_lf (codes " : ") (decimal n) (known (codes " : ") refl) (decimal-no_lf n)
asks-no_lf (part n p) =
    let bounded = join_no_lf (codes " : ") (decimal n) (known (codes " : ") refl) (decimal-no_lf n) in
    join_no_lf (codes " : " ++ decimal n ++ codes " part ") (part_words p)
    (join_no_lf (codes " : " ++ decimal n) (codes " part ") bounded (known (codes " part ") refl)) (part-no_lf p)

-- nor do the words of a claim
pub claim-no_lf : (claim : ShownClaim) → HasNo 10 (claim_words claim)
claim-no_lf claim = join_no_lf (numbers claim.board) (asks_words claim.asks) (numbers-no_lf claim.board) (asks-no_lf claim.asks)

-- behind `of`, whatever comes before it
of_no_lf : (front words : List ℕ) → HasNo 10 front → HasNo 10 words → HasNo 10 (front ++ codes " of" ++ words)
of_no_lf front words p q =
    join_no_lf (front ++ codes " of") words (join_no_lf front (codes " of") p (known (codes " of") refl)) q

-- nor do the words of an answer
words-no_lf : (told : Told) → WhatHasNoLf told → HasNo 10 (told_words told)
words-no_lf (bounded n b) what = of_no_lf (codes "bound " ++ decimal n) (numbers b)
    (join_no_lf (codes "bound ") (decimal n) (known (codes "bound ") refl) (decimal-no_lf n)) (numbers-no_lf b)
words-no_lf (part_bounded p n b) what =
    let one = join_no_lf (codes "part ") (part_words p) (known (codes "part ") refl) (part-no_lf p) in
    let more = join_no_lf (codes "part " ++ part_words p) (codes " of bound ") one (known (codes " of bound ") refl) in
    of_no_lf (codes "part " ++ part_words p ++ codes " of bound " ++ decimal n) (numbers b)
    (join_no_lf (codes "part " ++ part_words p ++ codes " of bound ") (decimal n) more (decimal-no_lf n)) (numbers-no_lf b)
words-no_lf (optimal n b text) what =
    of_no_lf (codes "optimal " ++ decimal n) (claim_words (record { board = b; asks = moves text }))
    (join_no_lf (codes "optimal ") (decimal n) (known (codes "optimal ") refl) (decimal-no_lf n))
    (claim-no_lf (record { board = b; asks = moves text }))
words-no_lf (shorter solution claim) what =
    of_no_lf (codes "refused O2 by" ++ spaced_letters solution) (claim_words claim)
    (join_no_lf (codes "refused O2 by") (spaced_letters solution) (known (codes "refused O2 by") refl) (spaced-no_lf solution)) (claim-no_lf claim)
words-no_lf (refused what claim) none = of_no_lf what (claim_words claim) none (claim-no_lf claim)

pub goal-no_lf : (goal : Goal) → HasNo 10 (goal_words goal)
goal-no_lf First = All-nil (λ b. not (eqb b 10) ≡ true)
goal-no_lf Last = known (goal_words Last) refl

-- a line that answers a claim has no LF before its end
pub answer-no_lf : AnswersAreLines
answer-no_lf goal told what = join_no_lf (told_words told) (goal_words goal) (words-no_lf told what) (goal-no_lf goal)

regroup_four : (a b c d : List ℕ) → ((a ++ b) ++ c) ++ d ≡ a ++ (b ++ (c ++ d))
regroup_four a b c d = simp append_assoc

words_begin : (told : Told) → (rest : List ℕ) × (told_words told ≡ beginning told ++ rest)
words_begin (bounded n b) = (decimal n ++ (codes " of" ++ numbers b), regroup_four (codes "bound ") (decimal n) (codes " of") (numbers b))
words_begin (part_bounded p n b) = (part_words p ++ (codes " of bound " ++ (decimal n ++ (codes " of" ++ numbers b))), simp append_assoc)
words_begin (optimal n b text) =
    let words = claim_words (record { board = b; asks = moves text }) in
    (decimal n ++ (codes " of" ++ words), regroup_four (codes "optimal ") (decimal n) (codes " of") words)
words_begin (shorter solution claim) = (
  spaced_letters solution ++ (codes " of" ++ claim_words claim),
  regroup_four (codes "refused O2 by") (spaced_letters solution) (codes " of") (claim_words claim),
)
words_begin (refused what claim) = (codes " of" ++ claim_words claim, append_assoc what (codes " of") (claim_words claim))

-- it begins as its kind says
pub answer_begins : AnswersBegin
answer_begins goal told =
    let begin = words_begin told in (
      begin.0 ++ (goal_words goal ++ codes "\n"),
      ap (λ words. (words ++ goal_words goal) ++ codes "\n") begin.1 ∙ regroup_four (beginning told) begin.0 (goal_words goal) (codes "\n"),
    )

-- ---- letters, one after the other

-- where a letter stands, there is room for it behind those before it
pub letters_room : (text : List ℕ) (i : ℕ) → i < length text → is_letter (get_or text i 0) ≡ true → length (letters (take i text)) + 1 ≤ length (letters text)
letters_room text i within letter =
    let whole = ap letters (sym (take-append-drop i text)) ∙ filter-append is_letter (take i text) (drop i text) in
    let rest = ap letters (drop-cons text i 0 within)
    ∙ cond-true (is_letter (get_or text i 0)) (get_or text i 0 ∷ letters (drop (suc i) text)) (letters (drop (suc i) text)) letter in
    omega (arith, ap length whole, ap length rest, length-append (letters (take i text)) (letters (drop i text)))

-- a letter is an ASCII byte
pub letter_small : (x : ℕ) → is_letter x ≡ true → x < 128
letter_small x e = elim (cases_lt x 128) [
  | inl below ↦ below
  | inr above ↦
      let none : move_of_letter x ≡ None =
      cond-false (eqb x 85) _ _ (ne_eqb x 85 (λ same. omega arith)) ∙ cond-false (eqb x 68) _ _ (ne_eqb x 68 (λ same. omega arith)) ∙
      cond-false (eqb x 76) _ _ (ne_eqb x 76 (λ same. omega arith)) ∙ cond-false (eqb x 82) _ _ (ne_eqb x 82 (λ same. omega arith)) in
      absurd (let no : true ≡ false = sym e ∙ ap is_some none in cc)
]
