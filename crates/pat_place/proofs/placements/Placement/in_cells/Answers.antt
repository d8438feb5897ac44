use Rattle.std.proofs.Common.{◌≡◌, ◌-◌, ◌<◌, ◌++◌, get_or, replicate, length, set, ◌∙◌, ap, arith}
use Rattle.puz_board.proofs.StoredLemmas.{one_more_stored}
use Rattle.pat_place.proofs.PlacementLemmas.{placed, IsStoredPlacement-filled, shown-filled, filled_all}
use Rattle.pat_place.proofs.PatternLemmas.{few_tiles}
use Rattle.pat_place.proofs.placements.Placement.in_cells.Goals as goal

-- the cells, with zeros behind them
filled : (c : goal.After-result-1) → c.loop-i.stored ≡ c.args.cells.now ++ replicate (8 - length c.args.cells.now) 0
filled c = filled_all c.args.cells.now c.loop-i.stored c.loop-i.i c.loop-i-test.false c.loop-i.auto.i-end c.loop-i.invariant

-- the pattern and the cells that were filled in are the fields of a placement
pub invariant_of-result : goal.invariant_of-result
invariant_of-result c = IsStoredPlacement-filled c.args.pattern.now c.side-side.ensures.pattern c.args.cells.now c.requires c.loop-i.stored (filled c)

-- the new placement shows the pattern and the cells that were given
pub returns : goal.returns
returns c = ap (placed c.args.pattern.now) (shown-filled c.args.pattern.now c.side-side.ensures.pattern c.args.cells.now c.requires c.loop-i.stored (filled c))

-- the next cell is stored behind the first ones, and zeros are behind it
pub loop-i-preserved : goal.loop-i-preserved
loop-i-preserved c =
    let i = c.loop-i.i in
    let cells = c.args.cells.now in
    let low : i < length cells = c.loop-i-test.true in
    let few : i < 8 = (let few = few_tiles c.args.pattern.now c.side-side.ensures.pattern in let size = c.requires.size in omega arith) in
    ap (λ s. set s i (get_or cells i 0)) c.loop-i.invariant ∙ one_more_stored cells i 8 low few
