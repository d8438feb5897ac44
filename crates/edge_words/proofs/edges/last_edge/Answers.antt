use Rattle.std.proofs.Common.{◌≡◌, ℕ, ◌+◌, ◌-◌, ◌/◌, ◌∙◌, Some, length, not, sym, ap, ap₂, subst, arith}
use Rattle.std.specs.Prelude.{slice_index}
use Rattle.puz_board.specs.Cells.{reverse_of, step_of}
use Rattle.puz_board.specs.Masks.{has_bit}
use Rattle.puz_board.proofs.CellLemmas.{few_cells}
use Rattle.pat_place.specs.Placements.{IsFree}
use Rattle.pat_place.proofs.ListLemmas.{Some-one}
use Rattle.tab_runs.specs.Runs.{with_last}
use Rattle.edge_words.specs.Lookups.{but_last}
use Rattle.edge_words.specs.Words.{TellsOfMove, move_of}
use Rattle.edge_words.proofs.LookupLemmas.{open_place}
use Rattle.edge_words.proofs.RunMoveLemmas.{last_back, last_none, last_told}
use Rattle.edge_words.proofs.WordLemmas.{bit_is, bit_told}
use Rattle.edge_words.proofs.edges.last_edge.Goals as goal

-- where the last tile's cell has no origin by the move, no board has the move, and the answer false tells of it
pub returns-in_default : goal.returns-in_default
returns-in_default c =
    let p = c.args.lookup.now in
    last_none p c.pattern-pattern.ensures.is_pattern (but_last p c.args.run.now.cells) c.requires.run.run c.args.last c.requires.last (move_of c.args.number)
    (λ from step free. c.in_default.not-Some from (c.origin.ensures.origin ∙ step))

-- where the origin of the last tile's move isn't free, no board has the move, and the answer false tells of it
pub returns-then-not-has_cell : goal.returns-then-not-has_cell
returns-then-not-has_cell c =
    let p = c.args.lookup.now in
    let leads : step_of p.side c.args.last (reverse_of (move_of c.args.number)) ≡ Some c.in-Some.from = sym c.origin.ensures.origin ∙ c.in-Some.is in
    last_none p c.pattern-pattern.ensures.is_pattern (but_last p c.args.run.now.cells) c.requires.run.run c.args.last c.requires.last (move_of c.args.number)
    (λ from step free.
    let same : from ≡ c.in-Some.from = Some-one from c.in-Some.from (sym step ∙ leads) in
    let one = (c.requires.run.free c.in-Some.from).1 (subst (IsFree p.side (but_last p c.args.run.now.cells)) same free) in
    let test = c.has_cell.ensures.1 one in
    let no = c.if-not-has_cell.true in
    cc)

-- where the move leads to a lower cell, the bit of the move back is there, and its complement tells of the move
pub returns-then-number-eq1 : goal.returns-then-number-eq1
returns-then-number-eq1 c =
    let p = c.args.lookup.now in
    let cells = but_last p c.args.run.now.cells in
    let number = c.args.number in
    let last = c.args.last in
    let from = c.in-Some.from in
    let index : ℕ = length p.tiles - 1 in
    let odd = c.if-number-eq1.true in
    let words = c.args.words.now in
    let step : step_of p.side last (reverse_of (move_of number)) ≡ Some from = sym c.origin.ensures.origin ∙ c.in-Some.is in
    let free = (c.requires.run.free from).0 (c.has_cell.ensures.0 c.if-not-has_cell.false) in
    let same : (number - 1) / 4 ≡ index = (let tile = c.requires.tile in omega arith) in
    let found : c.has_cell-then-number-eq1.result ≡ has_bit (slice_index words from) (number - 1) =
    bit_is c.has_cell-then-number-eq1.result (slice_index words c.from.result) (number - 1) c.has_cell-then-number-eq1.ensures
    ∙ ap (λ i. has_bit (slice_index words i) (number - 1)) c.from.ensures in
    let tells = bit_told p cells number last words c.requires.words from free (number - 1) (omega arith) in
    subst (λ r. TellsOfMove p (with_last cells last) index (move_of number) (not r)) (sym found)
    (last_back p c.pattern-pattern.ensures.is_pattern cells c.requires.run.run last c.requires.last c.pattern-pattern.ensures.entries number odd from step
    (has_bit (slice_index words from) (number - 1))
    (subst (λ i. TellsOfMove p (with_last cells from) i (move_of (number - 1)) (has_bit (slice_index words from) (number - 1))) same tells))

-- the entry before the last tile's move is looked up at its cell's place in the row of the blank's cell
pub entry-before-requires-clause-place : goal.entry-before-requires-clause-place
entry-before-requires-clause-place c =
    let p = c.args.lookup.now in
    let pat = c.pattern-pattern.ensures.is_pattern in
    let few = few_cells p.side pat.low pat.high in
    ap₂ (λ a b. a + b) c.row_start.ensures (c.from-place.ensures ∙
    open_place p.side (omega arith) (but_last p c.args.run.now.cells) c.args.run.now.free c.without.result c.in-Some.from c.requires.run.free
    c.without.type_inv c.without.ensures.here c.without.ensures.others
    c.args.last c.requires.last.0 c.count_below.result c.count_below.ensures.count)

-- the entry after the last tile's move is looked up at its new cell's place in the row of the cell it left
pub entry-after-requires-clause-place : goal.entry-after-requires-clause-place
entry-after-requires-clause-place c =
    let p = c.args.lookup.now in
    let pat = c.pattern-pattern.ensures.is_pattern in
    let few = few_cells p.side pat.low pat.high in
    let free = (c.requires.run.free c.in-Some.from).0 (c.has_cell.ensures.0 c.if-not-has_cell.false) in
    ap₂ (λ a b. a + b) c.row_start-2.ensures (c.from-place-2.ensures ∙
    open_place p.side (omega arith) (but_last p c.args.run.now.cells) c.args.run.now.free c.without-2.result c.args.last c.requires.run.free
    c.without-2.type_inv c.without-2.ensures.here c.without-2.ensures.others
    c.in-Some.from free.0 c.count_below-2.result c.count_below-2.ensures.count)

-- whether the entry after is greater than the one before tells of the last tile's move
pub returns : goal.returns
returns c =
    let p = c.args.lookup.now in
    let cells = but_last p c.args.run.now.cells in
    let step : step_of p.side c.args.last (reverse_of (move_of c.args.number)) ≡ Some c.in-Some.from = sym c.origin.ensures.origin ∙ c.in-Some.is in
    last_told p c.pattern-pattern.ensures.is_pattern cells c.requires.run.run c.args.last c.requires.last (move_of c.args.number) c.in-Some.from step
    ((c.requires.run.free c.in-Some.from).0 (c.has_cell.ensures.0 c.if-not-has_cell.false))
    c.entry-before.result c.entry-after.result c.entry-before.ensures c.entry-after.ensures c.rise.result c.rise.ensures
