use Rattle.std.proofs.Common.{◌-◌, ◌*◌, length, sym, ◌∙◌, ap, ap₂, subst, arith}
use Rattle.pat_place.specs.Placements.{IsPlacement}
use Rattle.pat_place.proofs.PlacementLemmas.{IsPlacement-moved}
use Rattle.tab_runs.proofs.RunAtLemmas.{IsWithoutLast, free_last, last_moved, last_same, some_outside}
use Rattle.tab_runs.proofs.blocks.last_of_run.Goals as goal
use Rattle.tab_runs.proofs.blocks.last_of_run.Goals.{After-without-set}

-- the last tile's index is one of the placement's
pub cell-cell-requires : goal.cell-cell-requires
cell-cell-requires c =
    let s = c.side.ensures.pattern.some in
    let e = c.from-index.ensures ∙ c.size.ensures.size in
    let size = c.requires.placement.size ∙ ap (λ q. length q.tiles) c.requires.pattern in
    omega arith

without_last : (c : After-without-set) → IsWithoutLast c.args.pattern.now c.args.placement.now c.cells-count.result
    (c.from-index.result - 1) c.cell-cell.result c.occupied.result c.without-set.result
without_last c = record {
  pattern = c.side.ensures.pattern;
  same = c.requires.pattern;
  placed = c.requires.placement;
  board = c.cells-count.ensures.value ∙ ap₂ (λ m n. m * n) c.side.ensures.side c.side.ensures.side;
  index_is = (let s = c.side.ensures.pattern.some in let e = c.from-index.ensures ∙ c.size.ensures.size in omega arith);
  cell_is = c.cell-cell.ensures.cell;
  occupies = c.occupied.ensures;
  fits = c.without-set.type_inv;
  clear = c.without-set.ensures.here;
  others = c.without-set.ensures.others;
}

-- the set without the last tile's cell can't have all cells of the board, so this return is never reached
pub returns-in_default-clause-rank : goal.returns-in_default-clause-rank
returns-in_default-clause-rank c r is = absurd (some_outside
    (without_last (goal.at.returns-in_default-clause-rank c).After-without-set) r is c.in_default.ensures)

-- where the last tile is in the greatest cell that is lacking, the placement itself is the run's last one
pub returns-then-last-cell-clause-rank : goal.returns-then-last-cell-clause-rank
returns-then-last-cell-clause-rank c r is = last_same
    (without_last (goal.at.returns-then-last-cell-clause-rank c).After-without-set) r is c.in-Some.ensures c.if-last-cell.true

-- the greatest cell that is lacking, where it isn't the last tile's, is free for it
pub moved-requires-clause-free : goal.moved-requires-clause-free
moved-requires-clause-free c = free_last (without_last (goal.at.moved-requires-clause-free c).After-without-set) c.in-Some.ensures c.if-last-cell.false

-- the placement with its last tile moved to the greatest free cell is a placement
pub returns-clause-placement : goal.returns-clause-placement
returns-clause-placement c =
    let free = free_last (without_last (goal.at.returns-clause-placement c).After-without-set) c.in-Some.ensures c.if-last-cell.false in
    subst IsPlacement (sym c.moved.ensures) (IsPlacement-moved c.args.placement.now c.requires.placement (c.from-index.result - 1) c.in-Some.last free)

-- the placement with its last tile moved to the greatest free cell is the last one of the run by rank
pub returns-clause-rank : goal.returns-clause-rank
returns-clause-rank c r is = last_moved (without_last (goal.at.returns-clause-rank c).After-without-set) r is c.in-Some.ensures
    (ap (λ v. v.cells) c.moved.ensures)
