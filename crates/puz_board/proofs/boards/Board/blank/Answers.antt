use Rattle.std.proofs.Common.{◌≡◌, ◌*◌, ◌<◌, length, sym, ◌∙◌, ap₂, subst, arith}
use Rattle.puz_board.specs.Boards.{at, blank, side_of}
use Rattle.puz_board.specs.Stored.{numbers_shown}
use Rattle.puz_board.proofs.BoardLemmas.{at-cell_of, cell_of-below, cells_least}
use Rattle.puz_board.proofs.boards.Board.blank.Goals as goal

-- the blank's cell that is answered is a cell of the board
pub returns-clause-within : goal.returns-clause-within
returns-clause-within c =
    let shown = numbers_shown c.self.inside in
    let good = c.self.invariant.board in
    let some = cells_least (side_of shown) shown good in
    let is : blank shown ≡ c.self.inside.blank = c.self.invariant.blank_cell in
    let below : blank shown < side_of shown * side_of shown = cell_of-below (side_of shown) shown good 0 (omega arith) in
    let size : length shown ≡ side_of shown * side_of shown = good.size in
    let inside : c.self.inside.blank < length shown = omega arith in
    subst (λ b. c.self.inside.blank < length b) c.self.view_is inside

-- the blank's cell that is answered has the number 0 in it
pub returns-clause-holds : goal.returns-clause-holds
returns-clause-holds c =
    let shown = numbers_shown c.self.inside in
    let good = c.self.invariant.board in
    let some = cells_least (side_of shown) shown good in
    ap₂ (λ b z. at b z) (sym c.self.view_is) (sym c.self.invariant.blank_cell) ∙ at-cell_of (side_of shown) shown good 0 (omega arith)
