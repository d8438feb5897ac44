use Rattle.std.proofs.Common.{◌≡◌, ◌*◌, ◌<◌, ◌≤◌, Some, length, sym, ◌∙◌, ap, subst}
use Rattle.std.specs.Prelude.{IfSome}
use Rattle.std.specs.Option.{option_copied}
use Rattle.pat_place.specs.Patterns.{width}
use Rattle.pat_place.specs.Placements.{IsFree}
use Rattle.pat_place.specs.Regions.{IsSlot}
use Rattle.pat_place.proofs.WidthLemmas.{slot_within}
use Rattle.tab_file.specs.Tables.{slot_count}
use Rattle.tab_rule.proofs.LookLemmas.{if_some_more}
use Rattle.tab_rule.proofs.tables.CheckedTable.kept_slot.Goals as goal

-- the cell is one of the board of the slots that are kept
pub slot_in-requires : goal.slot_in-requires
slot_in-requires c =
    let t = c.self.inside.view in
    let kept : Some c.in_ok-as_ref.field-0.now ≡ c.self.inside.slots = sym (ap option_copied (c.in_ok-as_ref.was {u = tt})) ∙ c.as_ref.ensures.value in
    let same : c.in_ok-as_ref.field-0.now ≡ t.pattern.side = subst (λ o. IfSome o (λ s. s ≡ t.pattern.side)) (sym kept) c.self.invariant.slots in
    subst (λ n. c.args.cell < n * n) (sym (same ∙ ap (λ s. s.pattern.side) c.self.view_is)) c.requires

-- a slot that is kept for a set of cells is that of the free cell, and one of the table's slots
pub returns : goal.returns
returns c cells place mask free =
    let t = c.self.inside.view in
    let q = c.args.self.now.pattern in
    let pat = c.pattern-pattern.ensures.table.pattern in
    let kept : Some c.in_ok-as_ref.field-0.now ≡ c.self.inside.slots = sym (ap option_copied (c.in_ok-as_ref.was {u = tt})) ∙ c.as_ref.ensures.value in
    let same : c.in_ok-as_ref.field-0.now ≡ t.pattern.side = subst (λ o. IfSome o (λ s. s ≡ t.pattern.side)) (sym kept) c.self.invariant.slots in
    let side : c.in_ok-as_ref.field-0.now ≡ q.side = same ∙ ap (λ s. s.pattern.side) c.self.view_is in
    let found : IfSome c.slot_in.result (IsSlot q.side cells c.args.cell) =
    subst (λ n. IfSome c.slot_in.result (IsSlot n cells c.args.cell)) side
    (c.slot_in.ensures cells mask (subst (λ n. IsFree n cells c.args.cell) (sym side) free)) in
    if_some_more (IsSlot q.side cells c.args.cell) (λ j. IsSlot q.side cells c.args.cell j × (j < slot_count q)) c.slot_in.result
    (λ j is. (is, subst (λ k. j < width q.side k) place.size (slot_within q.side pat.low pat.high cells c.args.cell j place.inside place.apart is))) found
