use Rattle.pat_place.proofs.SlideLemmas.{placement_of-slid_other}
use Rattle.pat_place.proofs.board_laws.other_tiles_keep_the_placement.Goals as goal

-- a step of the blank to a tile outside the pattern leaves the placement as it was
pub returns : goal.returns
returns c p pat b good d inside e = placement_of-slid_other p.side b good d inside p.tiles pat.tiles e
