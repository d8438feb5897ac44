use Rattle.std.proofs.Common.{◌≡◌, ◌*◌, length, sym, ◌∙◌, ap₂, subst}
use Rattle.pat_place.specs.Placements.{IsPlacement}
use Rattle.pat_place.specs.Ranks.{IsRank}
use Rattle.pat_place.proofs.RankLemmas.{length-placements, IsPlacement-found, IsRank-found}
use Rattle.pat_place.proofs.ranks.unrank.Goals as goal

-- the count of the pattern is the number of lists of as many cells as it has tiles
pub cells_at-cells-requires-clause-ranks : goal.cells_at-cells-requires-clause-ranks
cells_at-cells-requires-clause-ranks c =
    let p = c.args.pattern.now in
    let cells : c.cells.result ≡ p.side * p.side = c.cells.ensures.value ∙ ap₂ (λ m n. m * n) c.side.ensures.side c.side.ensures.side in
    c.count-ranks.ensures.count ∙ length-placements p.side (length p.tiles) c.cells.result c.size.result cells c.size.ensures.size

-- the cells found at the rank are a placement of the pattern, to be stored
pub with_cells-requires-clause-placement : goal.with_cells-requires-clause-placement
with_cells-requires-clause-placement c =
    let p = c.args.pattern.now in
    let cells : c.cells.result ≡ p.side * p.side = c.cells.ensures.value ∙ ap₂ (λ m n. m * n) c.side.ensures.side c.side.ensures.side in
    IsPlacement-found p c.cells.result c.size.result c.args.rank c.cells_at-cells.result cells c.size.ensures.size c.cells_at-cells.ensures.cells

-- the answer for a rank below the count is a placement
pub returns-clause-placement : goal.returns-clause-placement
returns-clause-placement c =
    let p = c.args.pattern.now in
    let cells : c.cells.result ≡ p.side * p.side = c.cells.ensures.value ∙ ap₂ (λ m n. m * n) c.side.ensures.side c.side.ensures.side in
    subst IsPlacement (sym c.with_cells.ensures) (
    IsPlacement-found p c.cells.result c.size.result c.args.rank c.cells_at-cells.result cells c.size.ensures.size c.cells_at-cells.ensures.cells)

-- the placement that is answered has the given rank
pub returns-clause-rank : goal.returns-clause-rank
returns-clause-rank c =
    let p = c.args.pattern.now in
    let cells : c.cells.result ≡ p.side * p.side = c.cells.ensures.value ∙ ap₂ (λ m n. m * n) c.side.ensures.side c.side.ensures.side in
    subst (λ q. IsRank p.side q.cells c.args.rank) (sym c.with_cells.ensures) (
    IsRank-found p c.cells.result c.size.result c.args.rank c.cells_at-cells.result cells c.size.ensures.size c.cells_at-cells.ensures.cells)
