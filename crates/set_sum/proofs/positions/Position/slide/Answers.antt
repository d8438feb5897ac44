use Rattle.std.proofs.Common.{◌≡◌, ◌*◌, ◌<◌, List, ℕ, refl, slice_index, slice_set, sym, ◌∙◌, ap, subst, arith, length-set}
use Rattle.puz_board.specs.Boards.{IsBoardOf, at, blank, slid}
use Rattle.puz_board.specs.Cells.{Adjacent}
use Rattle.puz_board.specs.Transposing.{transposed, transposed_cell}
use Rattle.puz_board.proofs.BoardLemmas.{IsBoardOf-slid, cells_most}
use Rattle.puz_board.proofs.TransposeLemmas.{cell_below}
use Rattle.tab_rule.specs.Counts.{AreCellsOf}
use Rattle.set_sum.specs.StoredPositions.{numbers_shown}
use Rattle.set_sum.specs.ShownSums.{ShownSums}
use Rattle.set_sum.proofs.KnownLemmas.{cells_after}
use Rattle.set_sum.proofs.SlideLemmas.{blank_below, blank_first, number_at, numbers_slid, transposed_after}
use Rattle.set_sum.proofs.positions.Position.slide.Goals as goal

-- the cell that the blank leaves is one of the 25 stored numbers
pub bounds-self-inside-from-2 : goal.bounds-self-inside-from-2
bounds-self-inside-from-2 c =
    let s = c.self.inside in
    let n = s.bundle.now.side in
    let first = blank_first n (numbers_shown s) s.cells c.self.invariant.board c.self.invariant.cells in
    let low = blank_below n (numbers_shown s) c.self.invariant.board in
    let most = cells_most n (numbers_shown s) c.self.invariant.board in
    let same = c.from-2.ensures in
    omega arith

-- the cell that the blank leaves has a transposed cell on the board
pub transposed-requires : goal.transposed-requires
transposed-requires c =
    let s = c.self.inside in
    let n = s.bundle.now.side in
    subst (λ z. z < n * n) (sym (blank_first n (numbers_shown s) s.cells c.self.invariant.board c.self.invariant.cells))
    (blank_below n (numbers_shown s) c.self.invariant.board)

-- the transposed cell of the tile is one of the 25 stored ones
pub bounds-self-inside-from-5 : goal.bounds-self-inside-from-5
bounds-self-inside-from-5 c =
    let s = c.self.inside in
    let n = s.bundle.now.side in
    let good = c.self.invariant.board in
    let near : Adjacent n (blank (numbers_shown s)) c.args.to = subst (λ w. Adjacent w.bundle.side (blank w.board) c.args.to) (sym c.self.view_is) c.requires in
    let tile_is : slice_index s.numbers c.from.result ≡ at (numbers_shown s) c.args.to = ap (slice_index s.numbers) c.from.ensures
    ∙ number_at n c.args.to s.numbers near.0 in
    let tile : slice_index s.numbers c.from.result < n * n = subst (λ t. t < n * n) (sym tile_is) (good.below c.args.to near.0) in
    let low = cell_below n good.low good.high (slice_index s.numbers c.from.result) tile in
    let most = cells_most n (numbers_shown s) good in
    let same = c.from-5.ensures ∙ c.transposed-2.ensures in
    omega arith

-- the board after the slide
shown : (c : goal.After-transposed-3)
    → numbers_shown (record c.self.inside {
      numbers = slice_set (slice_set c.self.inside.numbers c.from-2.result (slice_index c.self.inside.numbers c.from.result)) c.from-3.result 0;
    }) ≡ slid (numbers_shown c.self.inside) c.args.to
shown c =
    let s = c.self.inside in
    let n = s.bundle.now.side in
    let good = c.self.invariant.board in
    let near : Adjacent n (blank (numbers_shown s)) c.args.to = subst (λ w. Adjacent w.bundle.side (blank w.board) c.args.to) (sym c.self.view_is) c.requires in
    numbers_slid n s.numbers good c.args.to near.0 c.from-2.result (slice_index s.numbers c.from.result) c.from-3.result
    (c.from-2.ensures ∙ blank_first n (numbers_shown s) s.cells good c.self.invariant.cells)
    (ap (slice_index s.numbers) c.from.ensures ∙ number_at n c.args.to s.numbers near.0) c.from-3.ensures

-- the fields of a position after a slide are those of a stored position
pub invariant_of-self : goal.invariant_of-self
invariant_of-self c =
    let s = c.self.inside in
    let v = s.bundle.now in
    let n = v.side in
    let b : List ℕ = numbers_shown s in
    let good = c.self.invariant.board in
    let to = c.args.to in
    let near : Adjacent n (blank b) to = subst (λ w. Adjacent w.bundle.side (blank w.board) to) (sym c.self.view_is) c.requires in
    let first = blank_first n b s.cells good c.self.invariant.cells in
    let tile_is : slice_index s.numbers c.from.result ≡ at b to = ap (slice_index s.numbers) c.from.ensures ∙ number_at n to s.numbers near.0 in
    let cells : List ℕ = slice_set (slice_set s.cells c.from-4.result (slice_index s.cells 0)) 0 to in
    let also : List ℕ = slice_set (slice_set s.transposed c.from-5.result c.transposed.result) 0 c.transposed-3.result in
    record {
      space = length-set _ _ _ ∙ length-set _ _ _ ∙ c.self.invariant.space;
      board = subst (IsBoardOf n) (sym (shown c)) (IsBoardOf-slid n b good to near.0);
      room = length-set _ _ _ ∙ length-set _ _ _ ∙ c.self.invariant.room;
      cells = subst (AreCellsOf cells) (sym (shown c))
          (cells_after n b good to near s.cells c.from-4.result (slice_index s.cells 0) to c.self.invariant.room c.self.invariant.cells
          (c.from-4.ensures ∙ tile_is) first refl);
      room_transposed = length-set _ _ _ ∙ length-set _ _ _ ∙ c.self.invariant.room_transposed;
      transposed = subst (λ x. AreCellsOf also (transposed x)) (sym (shown c))
          (transposed_after n b good to near s.transposed c.from-5.result c.transposed.result c.transposed-3.result c.self.invariant.room_transposed
          c.self.invariant.transposed
          (c.from-5.ensures ∙ c.transposed-2.ensures ∙ ap (transposed_cell n) tile_is)
          (c.transposed.ensures ∙ ap (transposed_cell n) first) c.transposed-3.ensures);
    }

-- after a slide, the position has the board with the blank in the cell it went to
pub returns-clause-board : goal.returns-clause-board
returns-clause-board c =
    let s = c.self.inside in
    ap {B = ShownSums} (λ x. record { bundle = s.bundle.now; board = x }) (shown c) ∙
    ap {B = ShownSums} (λ w. record { bundle = w.bundle; board = slid w.board c.args.to }) c.self.view_is

-- the tile that moves
tile_at : (c : goal.After-transposed-3) → slice_index c.self.inside.numbers c.from.result ≡ at (numbers_shown c.self.inside) c.args.to
tile_at c =
    let s = c.self.inside in
    let n = s.bundle.now.side in
    let near : Adjacent n (blank (numbers_shown s)) c.args.to = subst (λ w. Adjacent w.bundle.side (blank w.board) c.args.to) (sym c.self.view_is) c.requires in
    ap (slice_index s.numbers) c.from.ensures ∙ number_at n c.args.to s.numbers near.0

-- the tile that is answered is the number of the cell to which the blank went
pub returns-clause-tile : goal.returns-clause-tile
returns-clause-tile c = tile_at c ∙ ap (λ w. at w.board c.args.to) c.self.view_is

-- the tile that is answered is a number of the board
pub returns-clause-below : goal.returns-clause-below
returns-clause-below c =
    let s = c.self.inside in
    let n = s.bundle.now.side in
    let near : Adjacent n (blank (numbers_shown s)) c.args.to = subst (λ w. Adjacent w.bundle.side (blank w.board) c.args.to) (sym c.self.view_is) c.requires in
    subst (λ w. slice_index s.numbers c.from.result < w.bundle.side * w.bundle.side) c.self.view_is
    (subst (λ t. t < n * n) (sym (tile_at c)) (c.self.invariant.board.below c.args.to near.0))
