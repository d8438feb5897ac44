use Rattle.std.proofs.Common.{◌≡◌, ◌*◌, ◌<◌, ◌≤◌, length, take, sym, ◌∙◌, ap₂, arith}
use Rattle.std.proofs.lemmas.List.{ext_get_or, get_or-take, length-take-le}
use Rattle.puz_board.proofs.BoardLemmas.{cells_most}
use Rattle.puz_walk.proofs.word_spots.numbers_of.Goals as goal

-- after all cells, the first numbers that were filled in are those of the board
pub returns-clause-numbers : goal.returns-clause-numbers
returns-clause-numbers c =
    let b = c.args.board.now in
    let numbers = c.loop-cell.numbers in
    let good = c.side.ensures.board in
    let most = cells_most _ b good in
    let size = good.size in
    let room = c.loop-cell.invariant.room in
    let all : length b ≤ c.loop-cell.cell = (
    let done = c.loop-cell-test.false in
    let count = c.cells-cell-end.ensures.value in
    let side : c.side.result * c.side.result ≡ length b = ap₂ (λ m n. m * n) c.side.ensures.side c.side.ensures.side ∙ sym size in
    omega arith) in
    let length_is : length (take (length b) numbers) ≡ length b = length-take-le (length b) numbers (omega arith) in
    ext_get_or 0 (take (length b) numbers) b length_is (λ i low.
    let inside : i < length b = omega arith in
    get_or-take (length b) numbers i 0 inside ∙ c.loop-cell.invariant.each i (omega arith))
