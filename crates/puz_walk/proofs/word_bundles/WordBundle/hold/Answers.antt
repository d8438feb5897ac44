use Rattle.puz_walk.proofs.HeldLemmas.{held_seat}
use Rattle.puz_walk.proofs.word_bundles.WordBundle.hold.Goals as goal

-- what is kept at the place of the tile's seat is what a move of the tile changes
pub returns : goal.returns
returns c b are =
    let seat = c.seat-place.ensures in
    held_seat c.args.self.now seat.bundle seat.words.0 seat.words.1 c.args.set c.requires.set b c.args.kept.now are c.args.tile c.requires.tile c.args.mv
    c.seat-place.result seat.seat c.from.result c.from-2.result c.from.ensures c.from-2.ensures
