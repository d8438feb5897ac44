use Rattle.std.proofs.Common.{◌≡◌, ◌+◌, ◌*◌, ◌<◌, length, set, sym, ◌∙◌, ap, ap₂, subst, arith, length-set}
use Rattle.puz_board.proofs.CellLemmas.{few_cells}
use Rattle.pat_place.specs.Regions.{AreRegions}
use Rattle.pat_place.proofs.SlotTableLemmas.{AreSlotsUpTo, slots_set, slots_skip}
use Rattle.pat_place.proofs.slot_tables.slots_of.Goals as goal
use Rattle.pat_place.proofs.slot_tables.slots_of.Goals.{in-Some, in_default}

-- the next cell's slot is put down where a region has the cell, and elsewhere the cell isn't free
pub loop-cell-preserved : goal.loop-cell-preserved
loop-cell-preserved c =
    let p = c.args.placement.now in
    let n = p.pattern.side in
    let pat = c.pattern.ensures.is_pattern in
    let regions = c.as_slice.result.now in
    let are : AreRegions n p.cells regions = subst (AreRegions n p.cells) (sym c.as_slice.ensures.value) c.regions-regions.ensures.regions in
    let cell = c.loop-cell.cell in
    let side : c.side.result ≡ n = c.side.ensures.side ∙ ap (λ q. q.side) c.pattern.ensures.pattern in
    let board : c.cells-cell-end.result ≡ n * n = c.cells-cell-end.ensures.value ∙ ap₂ (λ a b. a * b) side side in
    let room : cell < length c.loop-cell.slots = (let few = few_cells n pat.low pat.high in let l = c.loop-cell-test.true in
    let s = c.loop-cell.invariant.size in omega arith) in
    elim c.match-find_region.branch [
      | in-Some w ↦
          let put = w.slots-is ∙ ap (λ i. set c.loop-cell.slots i w.in-Some.slot) w.from.ensures in
          record {
            size = ap length put ∙ length-set c.loop-cell.slots cell w.in-Some.slot ∙ c.loop-cell.invariant.size;
            slots = subst (AreSlotsUpTo n p.cells (cell + 1)) (sym put)
                (slots_set n pat.low pat.high p.cells regions are cell c.loop-cell.slots c.loop-cell.invariant.slots w.in-Some.slot
                w.in-Some.ensures.low w.in-Some.ensures.here room);
          }
      | in_default w ↦ record {
        size = ap length w.slots-is ∙ c.loop-cell.invariant.size;
        slots = subst (AreSlotsUpTo n p.cells (cell + 1)) (sym w.slots-is)
            (slots_skip n pat.low pat.high p.cells regions are cell c.loop-cell.slots c.loop-cell.invariant.slots (w.in_default.ensures {u = tt}));
      }
    ]

-- once all cells are seen, the slot of each free cell is at its place
pub returns-clause-slots : goal.returns-clause-slots
returns-clause-slots c x j is =
    let p = c.args.placement.now in
    let n = p.pattern.side in
    let side : c.side.result ≡ n = c.side.ensures.side ∙ ap (λ q. q.side) c.pattern.ensures.pattern in
    let board : c.cells-cell-end.result ≡ n * n = c.cells-cell-end.ensures.value ∙ ap₂ (λ a b. a * b) side side in
    let inside : x < n * n = is.free.0 in
    c.loop-cell.invariant.slots x j (let l = c.loop-cell-test.false in let m = c.loop-cell.auto.cell-end in omega arith) is
