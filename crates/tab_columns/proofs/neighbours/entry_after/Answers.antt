use Rattle.std.proofs.Common.{set, sym, subst}
use Rattle.pat_place.specs.Placements.{IsFree}
use Rattle.tab_rule.proofs.MoveLemmas.{left_free}
use Rattle.tab_columns.proofs.neighbours.entry_after.Goals as goal

-- the cell that the tile left is free after the move, so it has a slot
pub slot_of-slot-requires : goal.slot_of-slot-requires
slot_of-slot-requires c =
    let p = c.args.placement.now in
    subst (λ q. IsFree q.pattern.side q.cells c.args.cell) (sym c.moved-moved.ensures) (
    subst (λ x. IsFree p.pattern.side (set p.cells c.args.index c.args.to) x) c.requires.tile.4
    (left_free p c.requires.tile.2 c.args.index c.args.to c.requires.tile.3 c.requires.free))
