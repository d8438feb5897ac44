use Rattle.std.proofs.Common.{◌≡◌, ◌*◌, ◌-◌, ◌^◌, ◌<◌, bit_and, sym, ◌∙◌, ap, ap₂, subst, arith}
use Rattle.puz_board.specs.Masks.{IsMaskOf}
use Rattle.pat_place.specs.Placements.{IsFree}
use Rattle.puz_board.proofs.CellLemmas.{few_cells}
use Rattle.pat_place.proofs.SlotSteps.{free_is, free_within}
use Rattle.pat_place.proofs.slots.free_cells.Goals as goal

-- the answer has exactly the cells of the board in which no tile is
pub returns-clause-free : goal.returns-clause-free
returns-clause-free c =
    let p = c.args.placement.now in
    let side : c.side.result ≡ p.pattern.side = c.side.ensures.side ∙ ap (λ q. q.side) c.pattern.ensures.pattern in
    let cells : c.cells.result ≡ p.pattern.side * p.pattern.side = c.cells.ensures.value ∙ ap₂ (λ m n. m * n) side side in
    let few = few_cells c.side.result c.cells.ensures.low c.cells.ensures.high in
    let small : c.cells.result < 32 = let e = c.cells.ensures.value in omega arith in
    subst (λ all. IsMaskOf (bit_and all (2 ^ 32 - 1 - c.occupied.result)) (IsFree p.pattern.side p.cells)) (sym c.all_below.ensures) (
    free_is p.pattern.side c.occupied.result p.cells c.cells.result cells small c.occupied.type_inv c.occupied.ensures)

-- the answer has no bit from the count of cells on
pub returns-clause-within : goal.returns-clause-within
returns-clause-within c =
    let p = c.args.placement.now in
    let side : c.side.result ≡ p.pattern.side = c.side.ensures.side ∙ ap (λ q. q.side) c.pattern.ensures.pattern in
    let cells : c.cells.result ≡ p.pattern.side * p.pattern.side = c.cells.ensures.value ∙ ap₂ (λ m n. m * n) side side in
    subst (λ all. bit_and all (2 ^ 32 - 1 - c.occupied.result) < 2 ^ (p.pattern.side * p.pattern.side)) (sym c.all_below.ensures) (
    free_within p.pattern.side (2 ^ 32 - 1 - c.occupied.result) c.cells.result cells)
