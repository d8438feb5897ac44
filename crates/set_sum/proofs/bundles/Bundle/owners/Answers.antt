use Rattle.std.proofs.Common.{◌*◌, ◌<◌, slice_index, sym, subst}
use Rattle.set_sum.specs.Owners.{AreOwners}
use Rattle.set_sum.specs.Parts.{parts_shown}
use Rattle.set_sum.proofs.bundles.Bundle.owners.Goals as goal

-- the places that are stored for a tile are those of the members whose pattern has it
pub returns : goal.returns
returns c =
    let s = c.self.inside in
    let low = subst (λ w. c.args.tile < w.side * w.side) (sym c.self.view_is) c.requires in
    subst (λ w. AreOwners w.side w.tables c.args.tile (slice_index s.owners c.from.result)) c.self.view_is
    (subst (λ k. AreOwners s.side (parts_shown s.tables.items) c.args.tile (slice_index s.owners k)) (sym c.from.ensures)
    (c.self.invariant.owners.each c.args.tile low))
