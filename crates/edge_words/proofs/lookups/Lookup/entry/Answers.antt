use Rattle.std.proofs.Common.{◌≡◌, ◌+◌, ◌-◌, ◌*◌, IfSome, length, sym, ◌∙◌, ap, subst, arith}
use Rattle.std.specs.Prelude.{slice_index}
use Rattle.pat_place.specs.Patterns.{IsPattern}
use Rattle.tab_file.specs.Tables.{slot_count}
use Rattle.tab_runs.specs.RowTables.{AreRowsOf}
use Rattle.tab_runs.specs.Runs.{free_below, with_last}
use Rattle.edge_words.specs.Lookups.{SaysOfAll, but_last}
use Rattle.edge_words.proofs.LookupLemmas.{own_low, row_place, row_place_low, slot_there}
use Rattle.edge_words.proofs.lookups.Lookup.entry.Goals as goal

-- the place of the last tile's cell is within the rows that are kept of the run's set
pub bounds-rows-place : goal.bounds-rows-place
bounds-rows-place c =
    let p = c.args.self.now in
    let pat = subst IsPattern c.self.view_is c.side-side.ensures.pattern in
    let run = c.requires.run in
    let are = subst (λ o. IfSome o (λ rows. AreRowsOf p.side (length p.tiles) c.args.run.now.set rows.now)) c.in-Some.is run.rows in
    let low = row_place_low p pat (but_last p c.args.run.now.cells) run.run c.args.cell c.args.last c.requires.open c.args.run.now.set
    c.in-Some.rows.now run.set are in
    let place = c.requires.place in
    omega arith

-- what a row says is counted from 1, so that 1 can be taken away
pub overflow_sub-result : goal.overflow_sub-result
overflow_sub-result c =
    let p = c.args.self.now in
    let pat = subst IsPattern c.self.view_is c.side-side.ensures.pattern in
    let cells = but_last p c.args.run.now.cells in
    let run = c.requires.run in
    let are = subst (λ o. IfSome o (λ rows. AreRowsOf p.side (length p.tiles) c.args.run.now.set rows.now)) c.in-Some.is run.rows in
    let slot = slot_there p pat cells run.run c.args.cell c.args.last c.requires.open in
    let e : c.from.result ≡ 1 + (free_below cells c.args.last * slot_count p + slot.0) = c.from.ensures ∙ ap (slice_index c.in-Some.rows.now) c.requires.place ∙
    row_place p pat cells run.run c.args.cell c.args.last c.requires.open c.args.run.now.set c.in-Some.rows.now run.set are in
    omega arith

-- what a row says, less 1, is the place of one of the run's own entries
pub bounds-run-from : goal.bounds-run-from
bounds-run-from c =
    let p = c.args.self.now in
    let pat = subst IsPattern c.self.view_is c.side-side.ensures.pattern in
    let cells = but_last p c.args.run.now.cells in
    let run = c.requires.run in
    let are = subst (λ o. IfSome o (λ rows. AreRowsOf p.side (length p.tiles) c.args.run.now.set rows.now)) c.in-Some.is run.rows in
    let slot = slot_there p pat cells run.run c.args.cell c.args.last c.requires.open in
    let e : c.from.result ≡ 1 + (free_below cells c.args.last * slot_count p + slot.0) = c.from.ensures ∙ ap (slice_index c.in-Some.rows.now) c.requires.place ∙
    row_place p pat cells run.run c.args.cell c.args.last c.requires.open c.args.run.now.set c.in-Some.rows.now run.set are in
    let low = own_low p pat cells run.run c.args.run.now.own.now run.own c.args.last c.args.cell slot.0 c.requires.open.last slot.1 in
    omega arith

-- the entry to which a row leads is what the table says of all boards with these cells and this blank
pub returns-in-Some : goal.returns-in-Some
returns-in-Some c =
    let p = c.args.self.now in
    let pat = subst IsPattern c.self.view_is c.side-side.ensures.pattern in
    let cells = but_last p c.args.run.now.cells in
    let run = c.requires.run in
    let are = subst (λ o. IfSome o (λ rows. AreRowsOf p.side (length p.tiles) c.args.run.now.set rows.now)) c.in-Some.is run.rows in
    let slot = slot_there p pat cells run.run c.args.cell c.args.last c.requires.open in
    let e : c.from.result ≡ 1 + (free_below cells c.args.last * slot_count p + slot.0) = c.from.ensures ∙ ap (slice_index c.in-Some.rows.now) c.requires.place ∙
    row_place p pat cells run.run c.args.cell c.args.last c.requires.open c.args.run.now.set c.in-Some.rows.now run.set are in
    let at : c.from.result - 1 ≡ free_below cells c.args.last * slot_count p + slot.0 = omega arith in
    subst (λ k. SaysOfAll p (with_last cells c.args.last) c.args.cell (slice_index c.args.run.now.own.now k)) (sym at)
    (run.own.each c.args.last c.args.cell slot.0 c.requires.open.last slot.1)
