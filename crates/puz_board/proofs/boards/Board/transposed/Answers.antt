use Rattle.std.proofs.Common.{◌≡◌, ◌+◌, ◌*◌, ◌<◌, ◌≤◌, ◌∙◌, ℕ, List, length, take, inl, inr, refl, sym, ap, subst, arith, slice_index, slice_set}
use Rattle.std.proofs.Common.{get_or-set_same, get_or-set_other, length-set}
use Rattle.std.proofs.lemmas.Bool.{cases_eq}
use Rattle.std.proofs.lemmas.List.{ext_get_or, get_or-take, length-take}
use Rattle.puz_board.specs.Boards.{IsBoard, IsBoardOf, at, side_of}
use Rattle.puz_board.specs.Transposing.{transposed, transposed_cell}
use Rattle.puz_board.proofs.BoardLemmas.{cells_most, side_of-board}
use Rattle.puz_board.proofs.TransposeLemmas.{IsBoardOf-transposed, at-transposed}
use Rattle.puz_board.proofs.boards.Board.transposed.Goals as goal

-- a number that is noted leaves those that were noted before
noted : (f : ℕ → ℕ) (numbers : List ℕ) → length numbers ≡ 25 → (i j x : ℕ) → j ≡ i → i < 25 → x ≡ f i → ((c : ℕ) → c < i → slice_index numbers c ≡ f c)
    → (c : ℕ) → c < i + 1 → slice_index (slice_set numbers j x) c ≡ f c
noted f numbers room i j x place inside is before c l = elim (cases_eq c j) [
  | inl e ↦ ap (slice_index (slice_set numbers j x)) e ∙ get_or-set_same numbers j x 0 (omega arith) ∙ is ∙ ap f (sym (e ∙ place))
  | inr ne ↦ get_or-set_other numbers j c x 0 ne ∙ before c (omega arith)
]

-- so the front of the list is the transposed board
whole : (n : ℕ) (b numbers : List ℕ) → IsBoardOf n b → length numbers ≡ 25 → (k : ℕ) → k ≡ n * n
    → ((c : ℕ) → c < k → slice_index numbers c ≡ transposed_cell n (at b (transposed_cell n c))) → take k numbers ≡ transposed b
whole n b numbers good room k all each =
    let most = cells_most n b good in
    let turned = IsBoardOf-transposed n b good in
    let size : length (take k numbers) ≡ k = length-take k numbers ∙ (let e = room in let f = all in omega arith) in
    ext_get_or 0 (take k numbers) (transposed b) (size ∙ all ∙ sym turned.size)
    (λ c low. let l : c < k = omega arith in get_or-take k numbers c 0 l ∙ each c l ∙ sym (at-transposed n b good c (omega arith)))

side_is : (n k : ℕ) → n ≡ k → n * n ≡ k * k
side_is n k e = ap (λ m. m * m) e

-- before the first cell, there is room for 25 numbers and none must be transposed yet
pub loop-cell-init : goal.loop-cell-init
loop-cell-init c = (refl, λ k l. omega arith)

-- setting the transposed number of one cell more leaves those of the cells before
pub loop-cell-preserved : goal.loop-cell-preserved
loop-cell-preserved c =
    let b = c.args.self.now in
    let n = c.side-side.result in
    let most : side_of b * side_of b ≤ 25 = cells_most (side_of b) b c.side-side.ensures.board in
    let square = side_is n (side_of b) c.side-side.ensures.side in
    let low : c.loop-cell.cell < 25 = omega arith in
    let number : c.at-number.result ≡ at b (transposed_cell n c.loop-cell.cell) = c.at-number.ensures ∙ ap (at b) c.transposed_cell.ensures.value in (
      length-set _ _ _ ∙ c.loop-cell.invariant.0,
      noted (λ x. transposed_cell n (at b (transposed_cell n x))) c.loop-cell.numbers c.loop-cell.invariant.0 c.loop-cell.cell c.from.result _
          c.from.ensures low
          (c.transposed_cell-in-loop-cell.ensures.value ∙ ap (transposed_cell n) number) c.loop-cell.invariant.1,
    )

module _ (b numbers : List ℕ) (n k : ℕ) (good : IsBoardOf (side_of b) b) (side : n ≡ side_of b) (room : length numbers ≡ 25)
    (all : k ≡ n * n) (done : (c : ℕ) → c < k → slice_index numbers c ≡ transposed_cell n (at b (transposed_cell n c))) where
  front : take k numbers ≡ transposed b
  front = whole n b numbers (subst (λ m. IsBoardOf m b) (sym side) good) room k all done

-- the numbers of all cells, transposed, are those of a board
pub with_numbers-requires-clause-board : goal.with_numbers-requires-clause-board
with_numbers-requires-clause-board c =
    let b = c.args.self.now in
    let turned = IsBoardOf-transposed (side_of b) b c.side-side.ensures.board in
    let is = front b c.loop-cell.numbers c.side-side.result c.from-2.result c.side-side.ensures.board c.side-side.ensures.side c.loop-cell.invariant.0
    (c.from-2.ensures ∙ c.cells.ensures.value) (λ x low. c.loop-cell.invariant.1 x (omega arith)) in
    subst IsBoard (sym is) (subst (λ m. IsBoardOf m (transposed b)) (sym (side_of-board (side_of b) (transposed b) turned)) turned)

-- the board made of the transposed numbers is the transposed board
pub returns-clause-value : goal.returns-clause-value
returns-clause-value c =
    c.with_numbers.ensures ∙ front c.args.self.now c.loop-cell.numbers c.side-side.result c.from-2.result c.side-side.ensures.board
    c.side-side.ensures.side c.loop-cell.invariant.0
    (c.from-2.ensures ∙ c.cells.ensures.value) (λ x low. c.loop-cell.invariant.1 x (omega arith))
