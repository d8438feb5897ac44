use Rattle.std.proofs.Common.{◌*◌, ◌<◌, subst, sym}
use Rattle.std.specs.Prelude.{IfSome}
use Rattle.pat_place.specs.Placements.{IsFree}
use Rattle.pat_place.specs.Regions.{IsSlot}
use Rattle.pat_place.proofs.slot_tables.SlotTable.slot.Goals as goal

-- a free cell of the placement is a cell of the table's boards
pub slot_in-requires : goal.slot_in-requires
slot_in-requires c = subst (λ n. c.args.cell < n * n) c.requires.side c.requires.free.0

-- the slot found by the set of the placement's cells is the cell's slot in the placement
pub returns : goal.returns
returns c =
    let p = c.args.placement.now in
    let free : IsFree c.args.self.now p.cells c.args.cell = subst (λ n. IsFree n p.cells c.args.cell) c.requires.side c.requires.free in
    subst (λ n. IfSome c.slot_in.result (IsSlot n p.cells c.args.cell)) (sym c.requires.side)
    (c.slot_in.ensures p.cells c.occupied.ensures free)
