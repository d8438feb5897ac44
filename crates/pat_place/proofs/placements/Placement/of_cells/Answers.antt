use Rattle.std.proofs.Common.{◌≡◌, ℕ, List, ◌-◌, ◌++◌, get_or, replicate, length, ◌∙◌, ap, subst, arith}
use Rattle.std.proofs.lemmas.List.{length-map}
use Rattle.pat_place.specs.Placements.{cells_found}
use Rattle.pat_place.proofs.PlacementLemmas.{placed, IsStoredPlacement-filled, shown-filled, filled_all}
use Rattle.pat_place.proofs.placements.Placement.of_cells.Goals as goal

abbrev cells : goal.After-result-1 → List ℕ
cells c = cells_found c.args.pattern.now.tiles c.args.found.now

-- the cells of the tiles, with zeros behind them
filled : (c : goal.After-result-1) → c.loop-i.cells ≡ cells c ++ replicate (8 - length (cells c)) 0
filled c =
    let tiles = c.as_slice-tile-items.result.now in
    let found = c.args.found.now in
    let same = c.as_slice-tile-items.ensures.value ∙ c.tiles-tiles.ensures.tiles in
    let count : length (cells_found tiles found) ≡ length tiles = length-map tiles (λ t. get_or found t 0) in
    let low = c.loop-i-test.false in
    let high = c.loop-i.auto.i-end in
    subst (λ ts. c.loop-i.cells ≡ cells_found ts found ++ replicate (8 - length (cells_found ts found)) 0) same
    (filled_all (cells_found tiles found) c.loop-i.cells c.loop-i.i (omega arith) (omega arith) c.loop-i.invariant)

-- the pattern and the cells found for its tiles are the fields of a placement
pub invariant_of-result : goal.invariant_of-result
invariant_of-result c = IsStoredPlacement-filled c.args.pattern.now c.tiles-tiles.ensures.pattern (cells c) c.requires c.loop-i.cells (filled c)

-- the new placement has each tile in the cell that was found for it
pub returns : goal.returns
returns c = ap (placed c.args.pattern.now) (shown-filled c.args.pattern.now c.tiles-tiles.ensures.pattern (cells c) c.requires c.loop-i.cells (filled c))
