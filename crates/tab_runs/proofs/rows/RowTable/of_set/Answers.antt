use Rattle.std.proofs.Common.{◌≡◌, ◌+◌, ◌*◌, ◌<◌, ◌≤◌, drop, length, get_or, sym, ◌∙◌, ap, ap₂, subst, arith, length-drop}
use Rattle.std.proofs.lemmas.List.{length-take-le}
use Rattle.pat_place.specs.Patterns.{width}
use Rattle.tab_runs.specs.Kinds.{TellRegionsOf}
use Rattle.tab_runs.specs.Rows.{row_length}
use Rattle.tab_runs.specs.RowTables.{AreRowsOf, entries_of_run}
use Rattle.tab_runs.proofs.TableRowLemmas.{part_end, part_says}
use Rattle.tab_runs.proofs.rows.RowTable.of_set.Goals as goal

-- the set's part of the rows ends within all rows that are kept
pub part-requires : goal.part-requires
part-requires c =
    let r = c.self.inside in
    let number = c.in_ok-number.number in
    let low : number < length r.kept.masks.items = (let l = c.if-number-masks.false in let e = ap length c.as_slice-masks.ensures.value in omega arith) in
    let end = part_end (r.side * r.side * row_length r.side r.tiles) (length r.kept.masks.items) number low in
    let board : r.cells * r.listed ≡ r.side * r.side * row_length r.side r.tiles = ap₂ (λ a b. a * b) c.self.invariant.few c.self.invariant.short in
    subst (λ k. number * k + k ≤ length c.as_slice.result.now) (sym board) (let s = c.self.invariant.kept.rows.size in
    let e = ap length c.as_slice.ensures.value in omega arith)

-- the set's part of the kinds ends within all kinds that are kept
pub part-requires-2 : goal.part-requires-2
part-requires-2 c =
    let r = c.self.inside in
    let number = c.in_ok-number.number in
    let low : number < length r.kept.masks.items = (let l = c.if-number-masks.false in let e = ap length c.as_slice-masks.ensures.value in omega arith) in
    let end = part_end (entries_of_run r.side r.tiles) (length r.kept.masks.items) number low in
    subst (λ k. number * k + k ≤ length c.as_slice-2.result.now) (sym c.self.invariant.long) (let s = c.self.invariant.kept.kinds.size in
    let e = ap length c.as_slice-2.ensures.value in omega arith)

-- the part of the rows that is found for a set has the rows of all cells for it
pub returns-clause-rows : goal.returns-clause-rows
returns-clause-rows c =
    let r = c.self.inside in
    let number = c.in_ok-number.number in
    let low : number < length r.kept.masks.items = (let l = c.if-number-masks.false in let e = ap length c.as_slice-masks.ensures.value in omega arith) in
    let mask : get_or r.kept.masks.items number 0 ≡ c.args.set = ap (λ xs. get_or xs number 0) (sym c.as_slice-masks.ensures.value) ∙ c.if-masks-number.false in
    let board : r.cells * r.listed ≡ r.side * r.side * row_length r.side r.tiles = ap₂ (λ a b. a * b) c.self.invariant.few c.self.invariant.short in
    subst (λ v. AreRowsOf v.side v.tiles c.args.set c.part.result.now) c.self.view_is
    (part_says (AreRowsOf r.side r.tiles) (r.side * r.side * row_length r.side r.tiles)
    (r.cells * r.listed) r.kept.masks.items r.kept.rows.items c.as_slice.result.now c.part.result.now number c.args.set
    c.self.invariant.kept.rows low mask board c.as_slice.ensures.value c.part.ensures)

-- the part of the kinds that is found for a set tells which of its slots have a region
pub returns-clause-told : goal.returns-clause-told
returns-clause-told c =
    let r = c.self.inside in
    let number = c.in_ok-number.number in
    let low : number < length r.kept.masks.items = (let l = c.if-number-masks.false in let e = ap length c.as_slice-masks.ensures.value in omega arith) in
    let mask : get_or r.kept.masks.items number 0 ≡ c.args.set = ap (λ xs. get_or xs number 0) (sym c.as_slice-masks.ensures.value) ∙ c.if-masks-number.false in
    subst (λ v. TellRegionsOf v.side (width v.side v.tiles) c.args.set c.part-2.result.now) c.self.view_is
    (part_says (TellRegionsOf r.side (width r.side r.tiles))
    (entries_of_run r.side r.tiles) r.entries r.kept.masks.items r.kept.kinds.items c.as_slice-2.result.now c.part-2.result.now number c.args.set
    c.self.invariant.kept.kinds low mask c.self.invariant.long c.as_slice-2.ensures.value c.part-2.ensures)

-- the part of the kinds that is found for a set has a byte for each entry of a run
pub returns-clause-size : goal.returns-clause-size
returns-clause-size c =
    let r = c.self.inside in
    let number = c.in_ok-number.number in
    let low : number < length r.kept.masks.items = (let l = c.if-number-masks.false in let e = ap length c.as_slice-masks.ensures.value in omega arith) in
    let end = part_end (entries_of_run r.side r.tiles) (length r.kept.masks.items) number low in
    let fits : number * r.entries + r.entries ≤ length c.as_slice-2.result.now =
    subst (λ k. number * k + k ≤ length c.as_slice-2.result.now) (sym c.self.invariant.long) (let s = c.self.invariant.kept.kinds.size in
    let e = ap length c.as_slice-2.ensures.value in omega arith) in
    ap length c.part-2.ensures ∙
    length-take-le r.entries (drop (number * r.entries) c.as_slice-2.result.now) (let k = length-drop (number * r.entries) c.as_slice-2.result.now in
    omega arith) ∙
    c.self.invariant.long ∙ ap (λ v. entries_of_run v.side v.tiles) c.self.view_is
