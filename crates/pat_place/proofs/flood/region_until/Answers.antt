use Rattle.std.proofs.Common.{◌≢◌, ◌*◌, ◌-◌, ◌^◌, ◌%◌, bit_and, sym, ◌∙◌, subst, arith}
use Rattle.std.proofs.lemmas.Nat.Bits.{bit_at-zero}
use Rattle.puz_board.specs.Masks.{IsMaskOf}
use Rattle.pat_place.specs.Regions.{Reaches}
use Rattle.puz_board.proofs.BitLemmas.{IsIn, in_below}
use Rattle.puz_board.proofs.GrownLemmas.{outside_column, free_fits}
use Rattle.puz_board.proofs.RegionLemmas.{IsGrowing-start, IsGrowing-more, IsGrowing-all, grows}
use Rattle.puz_board.proofs.CellLemmas.{few_cells}
use Rattle.pat_place.proofs.flood.region_until.Goals as goal
use Rattle.pat_place.proofs.flood.region_until.Goals.{then-more-region-via-then-more-region, then-more-region-via-else-more-region+then-more-goal-ne0}

-- the cell with which the region begins is small enough for a mask
pub with-region-requires : goal.with-region-requires
with-region-requires c =
    let inside = in_below c.args.free (c.args.side * c.args.side) c.args.cell c.requires.within c.requires.free in
    let few = few_cells c.args.side c.get-n.ensures.low c.get-n.ensures.high in
    omega arith

-- the region begins with the one given cell
pub grow-init : goal.grow-init
grow-init c = IsGrowing-start c.get-n.result c.args.free c.args.cell c.with-region.result c.requires.free c.with-region.ensures.here
    (λ x ne. c.with-region.ensures.others x ne ∙ bit_at-zero x)

-- the mask for steps to the right has the free cells outside the first column
pub grown-more-requires-clause-right : goal.grown-more-requires-clause-right
grown-more-requires-clause-right c =
    let fits = free_fits c.args.side c.args.free c.get-n.ensures.low c.get-n.ensures.high c.requires.within in
    subst (λ n. IsMaskOf (bit_and c.args.free (2 ^ 32 - 1 - c.first_column.result)) (λ x. IsIn c.args.free x × (x % n ≢ 0))) (sym c.get-n.ensures.value) (
    outside_column c.args.side 0 c.args.free c.first_column.result fits c.first_column.type_inv c.requires.within c.first_column.ensures)

-- the mask for steps to the left has the free cells outside the last column
pub grown-more-requires-clause-left : goal.grown-more-requires-clause-left
grown-more-requires-clause-left c =
    let fits = free_fits c.args.side c.args.free c.get-n.ensures.low c.get-n.ensures.high c.requires.within in
    subst (λ n. IsMaskOf (bit_and c.args.free (2 ^ 32 - 1 - c.last_column.result)) (λ x. IsIn c.args.free x × (x % n ≢ n - 1))) (sym c.get-n.ensures.value) (
    outside_column c.args.side (c.args.side - 1) c.args.free c.last_column.result fits c.last_column.type_inv c.requires.within c.last_column.ensures)

-- a path of free cells leads from the given cell to each cell of the answer
pub returns-then-more-region-clause-reached : goal.returns-then-more-region-clause-reached
returns-then-more-region-clause-reached c x in_it =
    subst (λ n. Reaches n (IsIn c.args.free) c.args.cell x) c.get-n.ensures.value (
    (IsGrowing-more c.get-n.result c.args.free c.args.cell c.grow.region c.grown-more.result c.grow.invariant c.grown-more.ensures).reached x in_it)

-- an answer without any of the goal's cells has all cells that such paths reach
pub returns-then-more-region-clause-whole : goal.returns-then-more-region-clause-whole
returns-then-more-region-clause-whole c none = elim c.then-more-region.branch [
  | then-more-region-via-then-more-region w ↦ subst (λ n. IsMaskOf c.grown-more.result (Reaches n (IsIn c.args.free) c.args.cell)) c.get-n.ensures.value (
      IsGrowing-all c.get-n.result c.args.free c.args.cell c.grow.region c.grown-more.result c.grow.invariant c.grown-more.ensures w.if-more-region.true)
  | then-more-region-via-else-more-region+then-more-goal-ne0 w ↦ absurd (w.if-more-goal-ne0.true none)
]

-- a region that grew and goes on leaves less that is free and outside it
pub grow-smaller : goal.grow-smaller
grow-smaller c = grows c.get-n.result c.args.free c.args.cell c.grow.region c.grown-more.result c.grow.invariant c.grown-more.ensures c.if-more-region.false

-- the grown region still has the given cell, and reached cells alone
pub grow-preserved : goal.grow-preserved
grow-preserved c = IsGrowing-more c.get-n.result c.args.free c.args.cell c.grow.region c.grown-more.result c.grow.invariant c.grown-more.ensures
