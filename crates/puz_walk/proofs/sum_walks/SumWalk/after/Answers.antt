use Rattle.std.proofs.Common.{◌+◌, ◌*◌, ◌<◌, slice_index_or, None, ◌∙◌, ap, arith}
use Rattle.puz_board.specs.Boards.{blank}
use Rattle.puz_board.specs.Cells.{step_of}
use Rattle.puz_board.specs.declared.moves.Move.{Move}
use Rattle.puz_board.specs.declared.moves.Move.TheVariants.{Up, Down, Left, Right}
use Rattle.puz_board.proofs.BoardLemmas.{cells_most}
use Rattle.edge_words.specs.Words.{way_of}
use Rattle.set_sum.proofs.SlideLemmas.{blank_below}
use Rattle.puz_walk.proofs.sum_walks.SumWalk.after.Goals as goal

few_ways : (move : Move) → way_of move < 4
few_ways Up = omega arith
few_ways Down = omega arith
few_ways Left = omega arith
few_ways Right = omega arith

-- the place of a cell and a move is one of the 100 ways that a walk over sums keeps
pub bounds-self-inside-way_place : goal.bounds-self-inside-way_place
bounds-self-inside-way_place c =
    let s = c.self.inside in
    let low = blank_below s.position.bundle.side s.position.board c.self.invariant.board in
    let most = cells_most s.position.bundle.side s.position.board c.self.invariant.board in
    let few = few_ways c.args.mv in
    let cell = c.blank-blank.ensures.cell in
    let place = c.way_place.ensures in
    omega arith

-- the way that is kept for the blank's cell and a move is the cell to which the move leads
pub returns : goal.returns
returns c =
    let s = c.self.inside in
    let low = blank_below s.position.bundle.side s.position.board c.self.invariant.board in
    ap (λ k. slice_index_or s.ways k None) (c.way_place.ensures ∙ ap (λ x. 4 * x + way_of c.args.mv) c.blank-blank.ensures.cell) ∙
    c.self.invariant.ways.each (blank s.position.board) c.args.mv low ∙
    ap (λ w. step_of w.bundle.side (blank w.board) c.args.mv) c.self.view_is
