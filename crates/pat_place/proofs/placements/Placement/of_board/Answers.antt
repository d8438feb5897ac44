use Rattle.std.proofs.Common.{sym, ◌∙◌, ap, subst}
use Rattle.pat_place.specs.Placements.{IsPlacement}
use Rattle.pat_place.proofs.PlacementLemmas.{IsPlacement-of, cells_of_board, placed}
use Rattle.pat_place.proofs.placements.Placement.of_board.Goals as goal

-- the cells found on the board for its numbers make a placement of the pattern
pub of_cells-requires : goal.of_cells-requires
of_cells-requires c =
    let p = c.args.pattern.now in
    let b = c.args.board.now in
    let pat = c.side-side.ensures.pattern in
    let same = cells_of_board b c.cells_of_all.ensures.board p pat c.requires c.cells_of_all.result c.cells_of_all.ensures.cells in
    subst (λ xs. IsPlacement (placed p xs)) (sym same) (IsPlacement-of b c.cells_of_all.ensures.board p pat c.requires)

-- the new placement has the pattern's tiles in the cells where the board has them
pub returns : goal.returns
returns c =
    let p = c.args.pattern.now in
    let b = c.args.board.now in
    c.of_cells.ensures ∙ ap (placed p) (cells_of_board b c.cells_of_all.ensures.board p c.side-side.ensures.pattern c.requires c.cells_of_all.result
    c.cells_of_all.ensures.cells)
