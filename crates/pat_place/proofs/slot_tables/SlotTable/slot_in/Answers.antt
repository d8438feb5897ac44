use Rattle.std.proofs.Common.{◌≡◌, ◌+◌, ◌*◌, ◌<◌, true, length, get_or, sym, ◌∙◌, ap, ap₂, subst, arith}
use Rattle.puz_board.specs.Masks.{IsMaskOf}
use Rattle.pat_place.specs.Patterns.{has}
use Rattle.pat_place.specs.Placements.{IsFree}
use Rattle.pat_place.specs.Regions.{IsSlot}
use Rattle.pat_place.proofs.SlotLemmas.{slot_some}
use Rattle.pat_place.proofs.SlotTableLemmas.{slot_room}
use Rattle.pat_place.proofs.slot_tables.SlotTable.slot_in.Goals as goal

-- the place of the slot for the set and the cell is within the list of slots
pub bounds-slots-number : goal.bounds-slots-number
bounds-slots-number c =
    let r = c.self.inside in
    let number = c.in_ok-number.number in
    let low : number < length r.masks.items = (let l = c.if-number-masks.false in let e = ap length c.as_slice-masks.ensures.value in omega arith) in
    let inside : c.args.cell < r.side * r.side = subst (λ k. c.args.cell < k * k) (sym c.self.view_is) c.requires in
    let room = slot_room r.side (length r.masks.items) number c.args.cell low inside in
    let size = c.self.invariant.slots.size in
    let at : number * r.cells + c.from.result ≡ number * (r.side * r.side) + c.args.cell = ap₂ (λ k x. number * k + x) c.self.invariant.few c.from.ensures in
    let same = ap length c.as_slice-slots.ensures.value in
    omega arith

-- the slot that is answered is the cell's for any placement on the cells of the set
pub returns : goal.returns
returns c cells mask_is is_free =
    let r = c.self.inside in
    let cell = c.args.cell in
    let number = c.in_ok-number.number in
    let side : c.args.self.now ≡ r.side = sym c.self.view_is in
    let low : number < length r.masks.items = (let l = c.if-number-masks.false in let e = ap length c.as_slice-masks.ensures.value in omega arith) in
    let at : number * r.cells + c.from.result ≡ number * (r.side * r.side) + cell = ap₂ (λ k x. number * k + x) c.self.invariant.few c.from.ensures in
    let free : IsFree r.side cells cell = subst (λ k. IsFree k cells cell) side is_free in
    let some = slot_some r.side c.self.invariant.low c.self.invariant.high cells cell free in
    let kept : get_or r.masks.items number 0 ≡ c.args.set = ap (λ xs. get_or xs number 0) (sym c.as_slice-masks.ensures.value) ∙ c.if-masks-number.false in
    let mask : IsMaskOf (get_or r.masks.items number 0) (λ x. has cells x ≡ true) = subst (λ m. IsMaskOf m (λ x. has cells x ≡ true)) (sym kept) mask_is in
    let byte : get_or c.as_slice-slots.result.now (number * r.cells + c.from.result) 0 ≡ some.0 =
    ap₂ (λ xs k. get_or xs k 0) c.as_slice-slots.ensures.value at ∙ c.self.invariant.slots.each number cells low mask cell some.0 some.1 in
    subst (λ k. IsSlot k cells cell (get_or c.as_slice-slots.result.now (number * r.cells + c.from.result) 0)) (sym side)
    (subst (IsSlot r.side cells cell) (sym byte) some.1)
