use Rattle.puz_board.proofs.GrownLemmas.{grown_is}
use Rattle.pat_place.proofs.flood.grown.Goals as goal

-- the grown mask has the mask's cells and the free cells adjacent to them, and no others
pub returns : goal.returns
returns c = grown_is c.args.n c.requires.low c.requires.high c.args.free c.args.right c.args.left c.args.mask c.requires.within c.requires.right
    c.requires.left c.requires.inside
