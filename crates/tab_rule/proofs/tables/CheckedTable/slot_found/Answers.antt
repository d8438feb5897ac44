use Rattle.std.proofs.Common.{◌≡◌, ◌<◌, length, refl, slice_index, sym, ◌∙◌, ap, subst, arith}
use Rattle.pat_place.specs.Patterns.{width}
use Rattle.pat_place.specs.Placements.{IsFree, IsPlacement, ShownPlacement, cells_found}
use Rattle.pat_place.specs.Ranks.{IsRank}
use Rattle.pat_place.specs.Regions.{IsSlot}
use Rattle.tab_file.specs.Tables.{placement_count, slot_count}
use Rattle.tab_rule.proofs.BlockLemmas.{rank_below}
use Rattle.tab_rule.proofs.LookLemmas.{slot_first}
use Rattle.tab_rule.proofs.tables.CheckedTable.slot_found.Goals as goal

-- the rank of the placement whose second slot is read is one of the table's
pub entry-requires-clause-rank : goal.entry-requires-clause-rank
entry-requires-clause-rank c =
    let t = c.args.self.now in
    let p : ShownPlacement = record { pattern = t.pattern; cells = cells_found t.pattern.tiles c.args.found.now } in
    subst (λ s. c.args.standing.rank < placement_count s.pattern) (sym c.self.view_is)
    (rank_below t p refl c.requires.placement c.args.standing.rank c.requires.rank)

-- where the second slot has no region, the blank's cell is in the first
pub returns-then-entry-clause-slot : goal.returns-then-entry-clause-slot
returns-then-entry-clause-slot c =
    let t = c.self.inside.view in
    let cell = slice_index c.args.found.now 0 in
    let width : c.width.result ≡ slot_count t.pattern = c.width.ensures
    ∙ ap slot_count (c.pattern-pattern.ensures.pattern ∙ ap (λ s. s.pattern) (sym c.self.view_is)) in
    let on = sym c.self.view_is in
    let slot : IsSlot t.pattern.side (cells_found t.pattern.tiles c.args.found.now) cell 0 =
    slot_first t c.self.invariant.exact (cells_found t.pattern.tiles c.args.found.now)
    (subst (λ s. IsPlacement (record { pattern = s.pattern; cells = cells_found s.pattern.tiles c.args.found.now })) on c.requires.placement)
    c.args.standing.rank cell
    (subst (λ s. IsRank s.pattern.side (cells_found s.pattern.tiles c.args.found.now) c.args.standing.rank) on c.requires.rank)
    (let l = c.if-width-gt1.true in omega arith)
    (sym c.entry.ensures.entry ∙ c.if-entry.true)
    (subst (λ s. IsFree s.pattern.side (cells_found s.pattern.tiles c.args.found.now) cell) on c.requires.free) in
    subst (λ s. IsSlot s.pattern.side (cells_found s.pattern.tiles c.args.found.now) cell 0) c.self.view_is slot
