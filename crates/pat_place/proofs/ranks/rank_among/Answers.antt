use Rattle.std.proofs.Common.{◌≡◌, ◌+◌, ◌-◌, ◌*◌, ◌^◌, get_or, sym, ◌∙◌, subst, arith}
use Rattle.puz_board.specs.Masks.{ones_below}
use Rattle.pat_place.proofs.RankSteps.{IsRanking, IsRanking-start, IsRanking-fits, IsRanking-more, IsRanking-all}
use Rattle.pat_place.proofs.ranks.rank_among.Goals as goal

-- before a cell is ranked, the mask has all cells, and the room is their count
pub loop-cell-init : goal.loop-cell-init
loop-cell-init c =
    subst (λ free. IsRanking c.args.cells.now c.args.count 0 free c.from-room.result 0) (sym c.all_below-free.ensures) (
    subst (λ room. IsRanking c.args.cells.now c.args.count 0 (2 ^ c.args.count - 1) room 0) (sym c.from-room.ensures) (
    IsRanking-start c.args.cells.now c.args.count c.requires.small c.requires.inside))

-- the rank times the room is a number of 64 bits
pub overflow_mul-rank : goal.overflow_mul-rank
overflow_mul-rank c =
    let fits = (IsRanking-fits c.args.cells.now c.requires.apart c.args.count c.loop-cell.cell-index c.loop-cell.free c.loop-cell.room
    c.loop-cell.rank c.loop-cell.invariant c.loop-cell-test.true c.requires.few).1 in
    omega arith

-- the product with the next cell's place added is a number of 64 bits
pub overflow_add-rank : goal.overflow_add-rank
overflow_add-rank c =
    let fits = (IsRanking-fits c.args.cells.now c.requires.apart c.args.count c.loop-cell.cell-index c.loop-cell.free c.loop-cell.room
    c.loop-cell.rank c.loop-cell.invariant c.loop-cell-test.true c.requires.few).1 in
    let place = c.from.ensures ∙ c.count_below.ensures.count in
    omega arith

-- while a cell isn't ranked, the room is at least 1
pub overflow_sub-room : goal.overflow_sub-room
overflow_sub-room c = (IsRanking-fits c.args.cells.now c.requires.apart c.args.count c.loop-cell.cell-index c.loop-cell.free c.loop-cell.room
    c.loop-cell.rank c.loop-cell.invariant c.loop-cell-test.true c.requires.few).0

-- the next cell adds its place among the free cells, and is taken from them
pub loop-cell-preserved : goal.loop-cell-preserved
loop-cell-preserved c =
    let place : ones_below c.loop-cell.free (get_or c.args.cells.now c.loop-cell.cell-index 0) ≡ c.from.result =
    sym (c.from.ensures ∙ c.count_below.ensures.count) in
    subst (λ place. IsRanking c.args.cells.now c.args.count (c.loop-cell.cell-index + 1) c.without-free.result (c.loop-cell.room - 1)
    (c.loop-cell.rank * c.loop-cell.room + place)) place (
    IsRanking-more c.args.cells.now c.requires.apart c.args.count c.loop-cell.cell-index c.loop-cell.free c.loop-cell.room c.loop-cell.rank
    c.loop-cell.invariant c.loop-cell-test.true
    c.without-free.result c.without-free.type_inv c.without-free.ensures.here c.without-free.ensures.others)

-- once all cells are ranked, the answer is the place of their list
pub returns : goal.returns
returns c = IsRanking-all c.args.cells.now c.args.count c.loop-cell.cell-index c.loop-cell.free c.loop-cell.room c.loop-cell.rank
    c.loop-cell.invariant c.loop-cell-test.false c.loop-cell.auto.cell-index-end
