use Rattle.std.proofs.Common.{◌≡◌, ◌+◌, ◌*◌, sym, ◌∙◌, ap, ap₂, subst, arith}
use Rattle.std.specs.Prelude.{slice_index}
use Rattle.pat_place.specs.Patterns.{IsPattern}
use Rattle.tab_file.specs.Tables.{slot_count}
use Rattle.tab_runs.specs.Runs.{free_below, with_last}
use Rattle.edge_words.specs.Lookups.{SaysOfAll, but_last}
use Rattle.edge_words.proofs.LookupLemmas.{number_is, own_low}
use Rattle.edge_words.proofs.lookups.Lookup.found_entry.Goals as goal

-- the slot that a flood finds leads to one of the run's own entries
pub bounds-run-number : goal.bounds-run-number
bounds-run-number c =
    let p = c.args.self.now in
    let pat = subst IsPattern c.self.view_is c.side-side.ensures.pattern in
    let cells = but_last p c.args.run.now.cells in
    let run = c.requires.run in
    let opens = c.requires.open in
    let number : c.from-number.result ≡ free_below cells c.args.last =
    number_is p pat cells run.run c.args.last opens.last c.args.run.now.free c.from-number.result run.free
    (c.from-number.ensures ∙ c.count_below.ensures.count) in
    let width = c.self.invariant.width ∙ ap slot_count c.self.view_is in
    let low = own_low p pat cells run.run c.args.run.now.own.now run.own c.args.last c.args.cell c.slot_of.result opens.last c.slot_of.ensures in
    let row : c.from-number.result * c.self.inside.width ≡ free_below cells c.args.last * slot_count p = ap₂ (λ a b. a * b) number width in
    let slot = c.from.ensures in
    omega arith

-- the entry to which a flood leads is what the table says of all boards with these cells and this blank
pub returns : goal.returns
returns c =
    let p = c.args.self.now in
    let pat = subst IsPattern c.self.view_is c.side-side.ensures.pattern in
    let cells = but_last p c.args.run.now.cells in
    let run = c.requires.run in
    let opens = c.requires.open in
    let number : c.from-number.result ≡ free_below cells c.args.last =
    number_is p pat cells run.run c.args.last opens.last c.args.run.now.free c.from-number.result run.free
    (c.from-number.ensures ∙ c.count_below.ensures.count) in
    let width = c.self.invariant.width ∙ ap slot_count c.self.view_is in
    let row : c.from-number.result * c.self.inside.width ≡ free_below cells c.args.last * slot_count p = ap₂ (λ a b. a * b) number width in
    let at : c.from-number.result * c.self.inside.width + c.from.result ≡ free_below cells c.args.last * slot_count p + c.slot_of.result =
    ap₂ (λ a b. a + b) row c.from.ensures in
    subst (λ k. SaysOfAll p (with_last cells c.args.last) c.args.cell (slice_index c.args.run.now.own.now k)) (sym at)
    (run.own.each c.args.last c.args.cell c.slot_of.result opens.last c.slot_of.ensures)
