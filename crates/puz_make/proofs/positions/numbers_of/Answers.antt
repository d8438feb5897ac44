use Rattle.std.proofs.Common.{◌≡◌, ◌+◌, ◌*◌, ◌<◌, ◌∙◌, ◌++◌, ◌∷◌, [], ℕ, List, length, take, refl, sym, ap, subst, arith, slice_index, slice_set, length-set}
use Rattle.std.proofs.lemmas.List.{take_all, take_more, take_more_set}
use Rattle.puz_board.specs.Boards.{side_of}
use Rattle.puz_board.proofs.BoardLemmas.{cells_most}
use Rattle.puz_make.proofs.positions.numbers_of.Goals as goal

-- one more number stands where the board has it
one_more : (numbers b : List ℕ) (i j x : ℕ) → j ≡ i → i < length numbers → i < length b → x ≡ slice_index b i → take i numbers ≡ take i b
    → take (i + 1) (slice_set numbers j x) ≡ take (i + 1) b
one_more numbers b i j x place room inside is before =
    ap (λ k. take (i + 1) (slice_set numbers k x)) place
    ∙ take_more_set numbers i x room
    ∙ ap (λ l. l ++ x ∷ []) before
    ∙ ap (λ y. take i b ++ y ∷ []) is
    ∙ sym (take_more b i 0 inside)

-- before the first cell there is room for 25 numbers, and none must be the board's yet
pub loop-cell-init : goal.loop-cell-init
loop-cell-init c = (refl, refl)

-- setting the number of one cell more makes the first cells so far those of the board
pub loop-cell-preserved : goal.loop-cell-preserved
loop-cell-preserved c =
    let b = c.args.board.now in
    let size = c.side-side.ensures.board.size in
    let most = cells_most (side_of b) b c.side-side.ensures.board in
    let square : c.side-side.result * c.side-side.result ≡ side_of b * side_of b = ap (λ m. m * m) c.side-side.ensures.side in
    let inside : c.loop-cell.cell < length b = omega arith in (
      length-set _ _ _ ∙ c.loop-cell.invariant.0,
      one_more c.loop-cell.numbers b c.loop-cell.cell _ _ c.from.ensures
          (omega arith) inside c.at.ensures c.loop-cell.invariant.1,
    )

-- at the end, the front of the array is the numbers of the board
pub returns : goal.returns
returns c =
    let b = c.args.board.now in
    let size = c.side-side.ensures.board.size in
    let square : c.side-side.result * c.side-side.result ≡ side_of b * side_of b = ap (λ m. m * m) c.side-side.ensures.side in
    let all : c.loop-cell.cell ≡ length b = omega arith in
    subst (λ k. take k c.loop-cell.numbers ≡ take k b) all c.loop-cell.invariant.1 ∙ take_all (length b) b (omega arith)
