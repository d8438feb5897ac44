use Rattle.std.proofs.Common.{◌*◌, ◌<◌, sym, ◌∙◌, ap, subst}
use Rattle.std.specs.List.{AllByRecursion}
use Rattle.pat_place.specs.Placements.{IsPlacement}
use Rattle.pat_place.proofs.PlacementLemmas.{placed, IsPlacement-goal, placement_of-goal}
use Rattle.pat_place.proofs.placements.Placement.goal.Goals as goal

-- the tiles of a pattern, taken as cells, are a placement
pub in_cells-requires : goal.in_cells-requires
in_cells-requires c =
    let p = c.args.pattern.now in
    subst (λ xs. IsPlacement (placed p xs)) (sym (c.as_slice.ensures.value ∙ c.tiles.ensures.tiles)) (IsPlacement-goal p c.tiles.ensures.pattern)

-- the placement has each tile in the cell of its own number
pub returns-clause-value : goal.returns-clause-value
returns-clause-value c = c.in_cells.ensures ∙ ap (placed c.args.pattern.now) (c.as_slice.ensures.value ∙ c.tiles.ensures.tiles)

-- on a goal board of the pattern's side the tiles are where this placement has them
pub returns-clause-of_goal : goal.returns-clause-of_goal
returns-clause-of_goal c b board side home =
    let tiles = c.args.pattern.now.tiles in
    placement_of-goal b board home tiles (subst (λ n. AllByRecursion (λ t. (0 < t) × (t < n * n)) tiles) (sym side) c.tiles.ensures.pattern.tiles) ∙
    sym (ap (λ q. q.cells) (returns-clause-value c))
