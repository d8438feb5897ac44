use Rattle.std.proofs.Common.{◌≡◌, length, ◌∙◌, ap, arith}
use Rattle.puz_board.proofs.CellLemmas.{few_cells}
use Rattle.edge_words.specs.Lookups.{but_last}
use Rattle.edge_words.proofs.WordLemmas.{bits_words, bits_zero}
use Rattle.edge_words.proofs.edges.words_of.Goals as goal

-- words of zeros tell of no move yet
pub loop-number-init : goal.loop-number-init
loop-number-init c = let pat = c.pattern.ensures.is_pattern in
    bits_zero c.args.lookup.now (but_last c.args.lookup.now c.args.run.now.cells) (few_cells c.args.lookup.now.side pat.low pat.high)

-- after the moves of all tiles, the words are those of the run's placements
pub returns : goal.returns
returns c =
    let p = c.args.lookup.now in
    let size : c.size-size.result ≡ length p.tiles = c.size-size.ensures.size ∙ ap (λ q. length q.tiles) c.pattern.ensures.pattern in
    let done = c.loop-number-test.false in
    bits_words p (but_last p c.args.run.now.cells) c.loop-number.number c.loop-number.words (omega arith) c.loop-number.invariant
