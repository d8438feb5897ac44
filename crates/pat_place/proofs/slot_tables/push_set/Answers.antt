use Rattle.std.proofs.Common.{◌≡◌, ◌*◌, ◌<◌, ◌∷◌, ◌++◌, [], length, take, sym, ◌∙◌, ap₂, subst, arith}
use Rattle.std.proofs.lemmas.List.{get_or-take, length-take-le}
use Rattle.puz_board.proofs.CellLemmas.{few_cells}
use Rattle.pat_place.specs.StoredSlots.{AreAllSlots, AreSlots}
use Rattle.pat_place.proofs.SlotTableLemmas.{slots_more}
use Rattle.pat_place.proofs.slot_tables.push_set.Goals as goal

-- with the set and its row of slots behind, each set in the table has its slots
pub returns : goal.returns
returns c =
    let p = c.args.pattern.now in
    let n = p.side in
    let cells = c.of_set.result.cells in
    let row = c.slots_of-row.result in
    let masks = c.args.masks.now.items in
    let slots = c.args.slots.now.items in
    let k = c.from.result in
    let board : k ≡ n * n = c.from.ensures ∙ c.cells.ensures.value ∙ ap₂ (λ a b. a * b) c.side.ensures.side c.side.ensures.side in
    let all : AreSlots n cells row = subst (λ q. AreSlots q.side cells row) c.of_set.ensures.pattern c.slots_of-row.ensures.slots in
    let few = few_cells n c.side.ensures.pattern.low c.side.ensures.pattern.high in
    let size : length (take k row) ≡ n * n = length-take-le k row (let l = c.slots_of-row.ensures.len in omega arith) ∙ board in
    let filled : AreSlots n cells (take k row) = λ x j is. (get_or-take k row x 0 (let l : x < n * n = is.free.0 in omega arith) ∙ all x j is) in
    let put : c.extend_from_slice.new.self.items ≡ slots ++ take k row = c.in_ok-extend_from_slice.ensures.items in
    subst (λ m. AreAllSlots n m c.extend_from_slice.new.self.items) (sym c.in_ok-push.ensures.items) (
    subst (AreAllSlots n (masks ++ c.args.set ∷ [])) (sym put)
    (slots_more n masks slots cells (take k row) c.args.set c.requires.slots c.of_set.ensures.set size filled))
