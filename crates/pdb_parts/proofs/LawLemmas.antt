-- What follows from true lines.
use Rattle.std.proofs.Common.{◌≡◌, ℕ, ◌+◌, ◌<◌, ◌||◌, Bool, true, false, List, [], ◌∷◌, get_or, length, refl, sym, ◌∙◌, subst, arith}
use Rattle.std.proofs.lemmas.List.Elements.{All-head, All-tail}
use Rattle.std.proofs.lemmas.List.FromFn.{get_or-range_with_len, length-range_with_len}
use Rattle.std.proofs.lemmas.List.Sums.{AllPass-from_list_all}
use Rattle.std.proofs.lemmas.Slice.Eq.{bytes_eq-Decides}
use Rattle.std.specs.List.{All, range_with_len}
use Rattle.std.specs.Str.{bytes_eq}
use Rattle.puz_board.specs.Boards.{side_of}
use Rattle.puz_goal.specs.Turning.{board_for}
use Rattle.move_strings.specs.BoundParts.{IsPartBounded}
use Rattle.move_strings.proofs.BoundPartLemmas.{of_all_parts}
use Rattle.puz_goal.proofs.SolvingLemmas.{boards_turn, bounded_for}
use Rattle.claim_text.specs.Parts.{part_at}
use Rattle.pdb_parts.specs.Joining.{ShownBoundInParts, is_told, part_line}
use Rattle.pdb_parts.specs.Laws.{IsTrueLine, LinesGiveTheBound}

-- what true lines say of a part is so
part_holds : (lines : List (List ℕ)) (asked : ShownBoundInParts) (index : ℕ) → index < asked.count → is_told lines asked index ≡ true
    → All (IsTrueLine asked) lines → IsPartBounded (part_at asked.count index) asked.bound (board_for asked.goal asked.board)
part_holds [] asked index below told all = absurd (let no : false ≡ true = told in cc)
part_holds (line ∷ lines) asked index below told all =
    go (bytes_eq line (part_line asked index)) refl told (λ later. part_holds lines asked index below later (All-tail (IsTrueLine asked) line lines all))
  where
    go : (b : Bool) → bytes_eq line (part_line asked index) ≡ b → (b || is_told lines asked index) ≡ true
        → (is_told lines asked index ≡ true → IsPartBounded (part_at asked.count index) asked.bound (board_for asked.goal asked.board))
        → IsPartBounded (part_at asked.count index) asked.bound (board_for asked.goal asked.board)
    go true e told later = All-head (IsTrueLine asked) line lines all index below ((bytes_eq-Decides line (part_line asked index)).0 e)
    go false e told later = later told

-- true lines that say so of all parts give the bound
pub lines_give : LinesGiveTheBound
lines_give lines asked board some told all =
    let turned = board_for asked.goal asked.board in
    bounded_for asked.goal asked.board asked.bound board
    (of_all_parts (side_of turned) turned (boards_turn asked.goal asked.board board).board asked.bound asked.count some
    (λ index below.
    let range = range_with_len 0 asked.count in
    let within : index < length range = subst (λ n. index < n) (sym (length-range_with_len 0 asked.count)) below in
    let place : 0 + index ≡ index = omega arith in
    let here : get_or range index 0 ≡ index = get_or-range_with_len 0 asked.count index 0 below ∙ place in
    let is : is_told lines asked index ≡ true = subst (λ k. is_told lines asked k ≡ true) here
    (AllPass-from_list_all (is_told lines asked) range told index 0 within) in
    part_holds lines asked index below is all))
