-- Parts that runs of `prove` answered, joined by `parts`.
use Rattle.std.proofs.Common.{◌≡◌, ◌∙◌, ◌<◌, ◌≤◌, ◌+◌, inl, inr, ap, ℕ, suc, zero, true, false, List, [], ◌∷◌, ◌++◌, Option, None, Some, append_assoc, append-nil}
use Rattle.std.proofs.Common.{arith, codes, decimal, drop, eqb, flat_map, get_or, get_or-take, length, lit<, map, not, refl, subst, sym, take, take-append-drop}
use Rattle.std.proofs.Math.Seq.{drop-cons}
use Rattle.std.proofs.lemmas.Bool.{eqb-true, not_from_false}
use Rattle.std.proofs.lemmas.Grind.{get_or_default_zero}
use Rattle.std.proofs.lemmas.List.{append_cancel_right, length-drop, length-take-le, take_more}
use Rattle.std.proofs.lemmas.List.Elements.{All-append, All-cons, All-head, All-nil, All-tail}
use Rattle.std.specs.Prelude.{position}
use Rattle.std.specs.List.{All}
use Rattle.puz_board.specs.Boards.{IsBoard}
use Rattle.puz_board.specs.BoardTexts.{Spells}
use Rattle.puz_board.proofs.FirstLemmas.{first-position}
use Rattle.move_strings.specs.BoundParts.{IsPart, IsPartBounded, ShownPart}
use Rattle.claim_text.specs.Claims.{HasNo, IsCutAt, part_words}
use Rattle.claim_text.specs.Lines.{numbers, part_bounded, told_text}
use Rattle.claim_text.specs.Parts.{AreParts, part_at}
use Rattle.claim_text.proofs.ClaimLemmas.{one_board}
use Rattle.claim_text.proofs.CutLemmas.{one_cut}
use Rattle.claim_text.proofs.DecimalLemmas.{decimal-no, one_decimal}
use Rattle.puz_goal.specs.Goals.{goal_words}
use Rattle.puz_goal.specs.Turning.{board_for}
use Rattle.puz_goal.specs.declared.goals.Goal.{Goal}
use Rattle.byte_io.specs.Shelf.{Bytes}
use Rattle.pdb_parts.specs.Joining.{ShownBoundInParts, whole_lines}
use Rattle.pdb_parts.specs.Laws.{AreTrueAnswers, IsTrueLine}
use Rattle.pdb_parts.proofs.LineLemmas.{next_whole_line, no_line}
use Rattle.pdb_program.specs.Headline.{AreWholeLines, HasLine, HoldsOfPart, SaysPart}
use Rattle.pdb_program.specs.Laws.{HasPartsOfProve, PartsOfProveGiveTheBound}
use Rattle.pdb_program.proofs.SpellLemmas.{numbers_spelt}

-- ---- the line of a part is one of one part, bound and board alone

-- what stands behind the `/` of such a line
abbrev behind_index : ShownPart → ℕ → Bytes → Bytes
behind_index p n text = decimal p.count ++ 32 ∷ (codes "of bound " ++ (decimal n ++ 32 ∷ (codes "of" ++ text)))

abbrev line_of : ShownPart → ℕ → Bytes → Bytes
line_of p n text = codes "part " ++ part_words p ++ codes " of bound " ++ decimal n ++ codes " of" ++ text

cut_of : (p : ShownPart) (n : ℕ) (text : Bytes) → line_of p n text ≡ codes "part " ++ (decimal p.index ++ 47 ∷ behind_index p n text)
cut_of p n text = simp append_assoc

record AreSame (p q : ShownPart) (n m : ℕ) (text other : Bytes) : Type 0 where
  index : p.index ≡ q.index
  count : p.count ≡ q.count
  bound : n ≡ m
  board : text ≡ other

-- a number at the front of both, which a byte ends that is no digit's
same_front : (byte m n : ℕ) (rest other : Bytes) → byte < 48 → m ≤ 65535 → n ≤ 65535 → decimal m ++ byte ∷ rest ≡ decimal n ++ byte ∷ other
    → (m ≡ n) × (rest ≡ other)
same_front byte m n rest other low few least is =
    let one : IsCutAt byte (decimal m ++ byte ∷ rest) (decimal m) rest = record { whole = refl; first = decimal-no byte m low } in
    let two : IsCutAt byte (decimal m ++ byte ∷ rest) (decimal n) other = record { whole = is; first = decimal-no byte n low } in
    let same = one_cut byte (decimal m ++ byte ∷ rest) (decimal m) rest (decimal n) other one two in
    (one_decimal m n few least same.0, same.1)

same_part : (p q : ShownPart) (n m : ℕ) (text other : Bytes) → IsPart p → IsPart q → n ≤ 255 → m ≤ 255 → line_of p n text ≡ line_of q m other
    → AreSame p q n m text other
same_part p q n m text other is_p is_q few least is =
    let below_p = is_p.below in
    let few_p = is_p.few in
    let below_q = is_q.below in
    let few_q = is_q.few in
    let words : decimal p.index ++ 47 ∷ behind_index p n text ≡ decimal q.index ++ 47 ∷ behind_index q m other =
    ap (drop 5) (sym (cut_of p n text) ∙ is ∙ cut_of q m other) in
    let index = same_front 47 p.index q.index (behind_index p n text) (behind_index q m other) (lit< tt) (omega arith) (omega arith) words in
    let count = same_front 32 p.count q.count _ _ (lit< tt) few_p few_q index.1 in
    let bound = same_front 32 n m _ _ (lit< tt) (omega arith) (omega arith) (ap (drop 9) count.1) in
    record { index = index.0; count = count.0; bound = bound.0; board = ap (drop 2) bound.1 }

-- so where a line says truly that a part holds, that part of that bound of that board does
holds_of_part : (goal : Goal) (p : ShownPart) (n : ℕ) (b : List ℕ) (line : Bytes) → IsPart p → n ≤ 255 → IsBoard b
    → line ≡ line_of p n (numbers b) ++ goal_words goal → HoldsOfPart goal line → IsPartBounded p n (board_for goal b)
holds_of_part goal p n b line is_part few board is holds =
    let q = holds.0 in
    let words = append_cancel_right (line_of q holds.1 holds.2) (line_of p n (numbers b)) (goal_words goal) (sym holds.8 ∙ is) in
    let same = same_part q p holds.1 n holds.2 (numbers b) holds.4 is_part holds.5 few words in
    let one : holds.3 ≡ b = one_board holds.2 holds.3 b holds.6 (subst (λ (text : Bytes). Spells text b) (sym same.board) (numbers_spelt b board)) in
    let part : q ≡ p = λ i. record { index = same.index i; count = same.count i } in
    subst (λ (t : ShownPart × ℕ × List ℕ). IsPartBounded t.0 t.1 (board_for goal t.2)) (λ i. (part i, same.bound i, one i)) holds.7

-- ---- the whole lines of a text

-- a line in front of whole lines
lines_behind : (line above : Bytes) → AreWholeLines above → AreWholeLines ((line ++ codes "\n") ++ above)
lines_behind line above begins = elim begins [
  | inl none ↦ inr (line, ap (λ (t : Bytes). (line ++ codes "\n") ++ t) none ∙ append-nil (line ++ codes "\n"))
  | inr some ↦ inr ((line ++ codes "\n") ++ some.0, ap (λ (t : Bytes). (line ++ codes "\n") ++ t) some.1 ∙ sym (append_assoc (line ++ codes "\n") some.0 (codes "\n")))
]

-- what holds of each line of a text holds of its whole lines
all_lines : (Holds : Bytes → Type 0) (n : ℕ) (text : Bytes) (place : Option ℕ) → place ≡ position (λ byte. eqb byte 10) text → length text ≤ n
    → ((above line below : Bytes) → HasLine above line below text → Holds (line ++ codes "\n")) → All Holds (whole_lines text)
all_lines Holds n text None is short each = subst (All Holds) (sym (no_line text is)) (All-nil Holds)
all_lines Holds zero text (Some end) is short each =
    let within : end < length text = (first-position (λ byte. eqb byte 10) text end (sym is)).within in absurd (omega (arith, within))
all_lines Holds (suc n) text (Some end) is short each =
    let first = first-position (λ byte. eqb byte 10) text end (sym is) in
    let within : end < length text = first.within in
    let here : get_or text end 0 ≡ 10 = eqb-true (get_or text end 0) 10 first.here in
    let line = take end text in
    let begin = take (end + 1) text in
    let behind = drop (end + 1) text in
    let few : length line ≡ end = length-take-le end text (omega arith) in
    let one : HasNo 10 line = λ k d l.
    let below : k < end = omega arith in
    not_from_false (eqb (get_or line k d) 10)
    (ap (λ byte. eqb byte 10) (get_or_default_zero line k d l ∙ get_or-take end text k 0 below) ∙ first.before k below) in
    let front : begin ≡ line ++ codes "\n" = take_more text end 0 within ∙ ap (λ byte. line ++ byte ∷ []) here in
    let whole : text ≡ line ++ (codes "\n" ++ behind) =
    sym (take-append-drop (end + 1) text) ∙ ap (λ (t : Bytes). t ++ behind) front ∙ append_assoc line (codes "\n") behind in
    let fewer : length behind ≤ n = omega (arith, length-drop (end + 1) text, short, within) in
    let rest = all_lines Holds n behind (position (λ byte. eqb byte 10) behind) refl fewer
    (λ above l below has. each (begin ++ above) l below (
      subst (λ (t : Bytes). AreWholeLines (t ++ above)) (sym front) (lines_behind line above has.0),
      has.1,
      sym (take-append-drop (end + 1) text) ∙ ap (λ (t : Bytes). begin ++ t) has.2 ∙ sym (append_assoc begin above (l ++ (codes "\n" ++ below))),
    )) in
    subst (All Holds) (sym (next_whole_line text end is))
    (All-cons Holds begin (whole_lines behind) (subst Holds (sym front) (each [] line behind (inl refl, one, whole))) rest)

-- ---- answers

-- what `prove` wrote of parts is true
module _ (asked : ShownBoundInParts) (parts : AreParts asked.count) (few : asked.bound ≤ 255) (board : IsBoard asked.board) where
  true_line : (text above line below : Bytes) → HasPartsOfProve asked.goal text → HasLine above line below text → IsTrueLine asked (line ++ codes "\n")
  true_line text above line below of_prove has i below_count is =
      let p = part_at asked.count i in
      let words : line ≡ line_of p asked.bound (numbers asked.board) ++ goal_words asked.goal = append_cancel_right line _ (codes "\n") is in
      let run = of_prove above line below has (_, words) in
      let is_part : IsPart p = record { below = below_count; odd = parts.odd; few = parts.few } in
      let holds = run.7.parts_true run.0 refl run.8 line run.9 run.10 (_, words) in
      holds_of_part asked.goal p asked.bound asked.board line is_part few board words (subst (λ goal. HoldsOfPart goal line) run.1 holds)

  true_texts : (texts : List Bytes) → All (HasPartsOfProve asked.goal) texts → AreTrueAnswers asked texts
  true_texts [] each = All-nil (IsTrueLine asked)
  true_texts (text ∷ texts) each =
      All-append (IsTrueLine asked) (whole_lines text) (flat_map whole_lines texts)
      (all_lines (IsTrueLine asked) (length text) text (position (λ byte. eqb byte 10) text) refl (omega arith)
      (λ above line below has. true_line text above line below (All-head (HasPartsOfProve asked.goal) text texts each) has))
      (true_texts texts (All-tail (HasPartsOfProve asked.goal) text texts each))

same_files : (files others : List Bytes) → map Some files ≡ map Some others → files ≡ others
same_files [] [] is = refl
same_files [] (other ∷ others) is = absurd (let count : 0 ≡ length (map Some (other ∷ others)) = ap length is in omega (arith, count))
same_files (file ∷ files) [] is = absurd (let count : length (map Some (file ∷ files)) ≡ 0 = ap length is in omega (arith, count))
same_files (file ∷ files) (other ∷ others) is =
    let first : file ≡ other = cc in
    let rest : map Some files ≡ map Some others = cc in
    λ i. first i ∷ same_files files others rest i

-- parts that runs of `prove` answered give the bound
pub parts_give : PartsOfProveGiveTheBound
parts_give a before later input lines status answers count few headline read each above line below has says =
    let holds = headline.lines_true above line below has says in
    let same : holds.7 ≡ answers = same_files holds.7 answers (sym holds.8 ∙ read) in
    let b = holds.2 in
    let asked : ShownBoundInParts = record { board = b; bound = a.bound; count = a.count; goal = a.goal } in
    (holds.0, b, holds.3, holds.4, holds.10 (true_texts asked count few holds.4.board holds.7 (subst (All (HasPartsOfProve a.goal)) (sym same) each)))
