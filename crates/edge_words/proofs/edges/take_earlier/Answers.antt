use Rattle.std.proofs.Common.{◌≡◌, ◌-◌, ◌*◌, ◌/◌, ◌<◌, length, not, sym, ◌∙◌, ap, ap₂, subst, arith}
use Rattle.std.specs.Prelude.{slice_index}
use Rattle.puz_board.specs.Masks.{has_bit}
use Rattle.puz_board.proofs.CellLemmas.{few_cells}
use Rattle.tab_runs.specs.Runs.{with_last}
use Rattle.edge_words.specs.Edges.{IsWith}
use Rattle.edge_words.specs.Lookups.{but_last}
use Rattle.edge_words.specs.Words.{TellsOfMove, move_of}
use Rattle.edge_words.proofs.WordLemmas.{bit_is, bits_all, bits_next, bits_start}
use Rattle.edge_words.proofs.edges.take_earlier.Goals as goal

-- before the first last cell, no word has the bit of the move
pub loop-last-init : goal.loop-last-init
loop-last-init c = bits_start c.args.lookup.now (but_last c.args.lookup.now c.args.run.now.cells) c.args.number c.args.words.now c.requires.words

-- where the bit is noted for one last cell more, the words tell up to the next cell
pub loop-last-preserved : goal.loop-last-preserved
loop-last-preserved c =
    let p = c.args.lookup.now in
    let pat = c.pattern.ensures.is_pattern in
    let cells = but_last p c.args.run.now.cells in
    let run = c.requires.run.run in
    let number = c.args.number in
    let last = c.loop-last.last in
    let earlier = c.args.earlier.now in
    let few = few_cells p.side pat.low pat.high in
    let side = c.side.ensures.side ∙ ap (λ q. q.side) c.pattern.ensures.pattern in
    let count : c.cells-cells.result ≡ p.side * p.side = c.cells-cells.ensures.value ∙ ap₂ (λ m n. m * n) side side in
    let within = c.loop-last-test.true in
    let falls : c.has_cell-falls.result ≡ has_bit (slice_index earlier last) (number - 1) =
    bit_is c.has_cell-falls.result (slice_index earlier c.from.result) (number - 1) c.has_cell-falls.ensures
    ∙ ap (λ i. has_bit (slice_index earlier i) (number - 1)) c.from.ensures in
    bits_next p cells number last c.loop-last.words c.loop-last.invariant (omega arith) (not c.has_cell-falls.result)
    (λ free. subst (λ r. TellsOfMove p (with_last cells last) (number / 4) (move_of number) (not r)) (sym falls)
    (c.requires.earlier.bits last free))
    c.from-in-loop-last-2.result c.noted.result c.from-in-loop-last-2.ensures
    (subst (λ i. IsWith (not c.has_cell-falls.result) number (slice_index c.loop-last.words i) c.noted.result)
    (c.from-in-loop-last.ensures ∙ sym c.from-in-loop-last-2.ensures) c.noted.ensures)

-- after all last cells, the words tell of the move too
pub returns : goal.returns
returns c =
    let p = c.args.lookup.now in
    let side = c.side.ensures.side ∙ ap (λ q. q.side) c.pattern.ensures.pattern in
    let count : c.cells-cells.result ≡ p.side * p.side = c.cells-cells.ensures.value ∙ ap₂ (λ m n. m * n) side side in
    let done = c.loop-last-test.false in
    bits_all p (but_last p c.args.run.now.cells) c.args.number c.loop-last.last c.loop-last.words (omega arith) c.loop-last.invariant
