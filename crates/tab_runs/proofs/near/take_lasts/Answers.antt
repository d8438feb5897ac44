use Rattle.std.proofs.Common.{◌≡◌, ◌*◌, ◌-◌, ◌^◌, inl, inr, sym, ◌∙◌, ap, ap₂, subst, arith}
use Rattle.std.specs.Prelude.{bit_and}
use Rattle.std.specs.Int.{bit_at}
use Rattle.std.proofs.lemmas.Bool.{cases_order}
use Rattle.puz_board.specs.Masks.{IsMaskOf}
use Rattle.pat_place.specs.Placements.{IsFree}
use Rattle.puz_board.proofs.BitLemmas.{in_below}
use Rattle.puz_board.proofs.CellLemmas.{few_cells}
use Rattle.pat_place.proofs.SlotSteps.{free_is}
use Rattle.tab_runs.specs.RunPlaces.{AreFreeBelow}
use Rattle.tab_runs.proofs.LoopLemmas.{left_all, left_more, left_start, was_in}
use Rattle.tab_runs.proofs.near.take_lasts.Goals as goal

-- a board has at most 25 cells to count free ones below
pub free_below_each-below-requires-clause-small : goal.free_below_each-below-requires-clause-small
free_below_each-below-requires-clause-small c =
    let t = c.args.table.now in
    let pat = c.pattern.ensures.table.pattern in
    let side : c.side.result ≡ t.pattern.side = c.side.ensures.side ∙ ap (λ q. q.side) c.pattern.ensures.pattern in
    let cells : c.cells-count.result ≡ t.pattern.side * t.pattern.side = c.cells-count.ensures.value ∙ ap₂ (λ m n. m * n) side side in
    let few = few_cells t.pattern.side pat.low pat.high in
    omega arith

-- at first, all free cells are left, and no move of the last tile is taken in
pub left-init : goal.left-init
left-init c =
    let t = c.args.table.now in
    let pat = c.pattern.ensures.table.pattern in
    let side : c.side.result ≡ t.pattern.side = c.side.ensures.side ∙ ap (λ q. q.side) c.pattern.ensures.pattern in
    let cells : c.cells-count.result ≡ t.pattern.side * t.pattern.side = c.cells-count.ensures.value ∙ ap₂ (λ m n. m * n) side side in
    let few = few_cells t.pattern.side pat.low pat.high in
    left_start t pat c.args.run.now.cells.now c.args.mins.now _
    (subst (λ all. IsMaskOf (bit_and all (2 ^ 32 - 1 - c.args.run.now.set)) (IsFree t.pattern.side c.args.run.now.cells.now)) (sym c.all_below.ensures)
    (free_is t.pattern.side c.args.run.now.set c.args.run.now.cells.now c.cells-count.result cells (omega arith) c.requires.run.bits c.requires.run.set))

-- the run, with its free cells counted below each cell, is as the last tile's moves need it
pub take_beside-requires-clause-last : goal.take_beside-requires-clause-last
take_beside-requires-clause-last c =
    let t = c.args.table.now in
    let side : c.side.result ≡ t.pattern.side = c.side.ensures.side ∙ ap (λ q. q.side) c.pattern.ensures.pattern in
    let cells : c.cells-count.result ≡ t.pattern.side * t.pattern.side = c.cells-count.ensures.value ∙ ap₂ (λ m n. m * n) side side in
    record {
      run = c.requires.run;
      below = subst (λ k. AreFreeBelow c.args.run.now.cells.now k c.free_below_each-below.result) cells c.free_below_each-below.ensures;
    }

-- the cells that are still left are free, and above the one that was taken out
pub take_beside-requires-clause-others : goal.take_beside-requires-clause-others
take_beside-requires-clause-others c x h =
    let was = was_in c.left.left c.first_of-a.result c.without-left.result x
    (record { was = c.first_of-a.ensures.here; bits = c.without-left.type_inv; here = c.without-left.ensures.here; others = c.without-left.ensures.others })
    (in_below c.without-left.result 32 x c.without-left.type_inv h) h in (
      c.left.invariant.some x was,
      elim (cases_order c.first_of-a.result x) [
        | inl e ↦ absurd (let z : bit_at c.without-left.result x ≡ 0 = ap (bit_at c.without-left.result) (sym e) ∙ c.without-left.ensures.here in omega arith)
        | inr apart ↦ elim apart [ inl l ↦ l | inr l ↦ absurd (let z = c.first_of-a.ensures.lowest x l in omega arith) ]
      ],
    )

-- with the moves of one cell to those above it taken in, that cell is no longer left
pub left-preserved : goal.left-preserved
left-preserved c =
    left_more c.args.table.now c.pattern.ensures.table.pattern c.args.run.now.cells.now c.args.mins.now c.left.mins c.take_beside.new.mins
    c.left.left c.first_of-a.result c.without-left.result c.left.invariant
    (record { was = c.first_of-a.ensures.here; bits = c.without-left.type_inv; here = c.without-left.ensures.here; others = c.without-left.ensures.others })
    c.take_beside.ensures

-- when no cell is left, all moves of the last tile between free cells are taken in
pub returns : goal.returns
returns c = left_all c.args.table.now c.pattern.ensures.table.pattern c.args.run.now.cells.now c.args.mins.now c.left.mins c.left.left
    c.left.invariant c.left-test.false
