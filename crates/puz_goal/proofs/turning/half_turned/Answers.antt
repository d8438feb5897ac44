use Rattle.std.proofs.Common.{◌≡◌, ◌+◌, ◌*◌, ◌<◌, ◌∙◌, ℕ, List, length, take, inl, inr, sym, ap, subst, arith, slice_index, slice_set}
use Rattle.std.proofs.Common.{get_or-set_same, get_or-set_other}
use Rattle.std.proofs.lemmas.Bool.{cases_eq}
use Rattle.std.proofs.lemmas.List.{ext_get_or, get_or-take, length-take}
use Rattle.puz_board.specs.Boards.{IsBoardOf, at, side_of}
use Rattle.puz_board.proofs.BoardLemmas.{cells_most}
use Rattle.puz_goal.specs.Turning.{half_turned, turned_cell, turned_number}
use Rattle.puz_goal.proofs.TurnLemmas.{IsBoardOf-turned, at-turned}
use Rattle.puz_goal.proofs.turning.half_turned.Goals as goal

-- a number that is noted leaves those that were noted before
noted : (f : ℕ → ℕ) (numbers : List ℕ) → length numbers ≡ 25 → (i j x : ℕ) → j ≡ i → i < 25 → x ≡ f i → ((c : ℕ) → c < i → slice_index numbers c ≡ f c)
    → (c : ℕ) → c < i + 1 → slice_index (slice_set numbers j x) c ≡ f c
noted f numbers room i j x place inside is before c l = elim (cases_eq c j) [
  | inl e ↦ ap (slice_index (slice_set numbers j x)) e ∙ get_or-set_same numbers j x 0 (omega arith) ∙ is ∙ ap f (sym (e ∙ place))
  | inr ne ↦ get_or-set_other numbers j c x 0 ne ∙ before c (omega arith)
]

-- so the front of the list is the turned board
whole : (n : ℕ) (b numbers : List ℕ) → IsBoardOf n b → length numbers ≡ 25 → (k : ℕ) → k ≡ n * n
    → ((c : ℕ) → c < k → slice_index numbers c ≡ turned_number n (at b (turned_cell n c))) → take k numbers ≡ half_turned b
whole n b numbers good room k all each =
    let most = cells_most n b good in
    let turned = IsBoardOf-turned n b good in
    let size : length (take k numbers) ≡ k = length-take k numbers ∙ (let e = room in let f = all in omega arith) in
    ext_get_or 0 (take k numbers) (half_turned b) (size ∙ all ∙ sym turned.size)
    (λ c low. let l : c < k = omega arith in get_or-take k numbers c 0 l ∙ each c l ∙ sym (at-turned n b good c (omega arith)))

module _ (b numbers : List ℕ) (n k : ℕ) (good : IsBoardOf (side_of b) b) (side : n ≡ side_of b) (room : length numbers ≡ 25)
    (all : k ≡ n * n) (done : (c : ℕ) → c < k → slice_index numbers c ≡ turned_number n (at b (turned_cell n c))) where
  front : take k numbers ≡ half_turned b
  front = whole n b numbers (subst (λ m. IsBoardOf m b) (sym side) good) room k all done

-- the board made of the turned numbers is the turned board
pub returns-clause-value : goal.returns-clause-value
returns-clause-value c =
    c.in-Some.ensures.1 ∙ front c.args.board.now c.loop-cell.numbers c.side-side.result c.from-2.result c.side-side.ensures.board
    c.side-side.ensures.side c.loop-cell.invariant.0
    (c.from-2.ensures ∙ c.cells.ensures.value) (λ x low. c.loop-cell.invariant.1 x (omega arith))
