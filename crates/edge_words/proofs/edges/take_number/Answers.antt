use Rattle.std.proofs.Common.{◌≡◌, ◌/◌, ◌<◌, length, ◌∙◌, ap, arith}
use Rattle.edge_words.specs.Lookups.{but_last}
use Rattle.edge_words.specs.Words.{move_of}
use Rattle.edge_words.proofs.RunMoveLemmas.{front_none}
use Rattle.edge_words.proofs.WordLemmas.{bits_none}
use Rattle.edge_words.proofs.edges.take_number.Goals as goal

-- where a tile's move comes from no free cell, its bit stays clear, and the words tell of one move more
pub returns-in_default-near_of : goal.returns-in_default-near_of
returns-in_default-near_of c =
    let p = c.args.lookup.now in
    let cells = but_last p c.args.run.now.cells in
    let number = c.args.number in
    let size : c.size.result ≡ length p.tiles = c.size.ensures.size ∙ ap (λ q. length q.tiles) c.pattern.ensures.pattern in
    let long = c.requires.run.run.size in
    let within = c.requires.number in
    let other = c.if-tile-size.false in
    let low : number / 4 < length cells = omega arith in
    bits_none p cells number c.args.words.now c.requires.words
    (λ last free. front_none p c.pattern.ensures.is_pattern cells c.requires.run.run last free (number / 4) (move_of number) low c.in_default-near_of.ensures)
