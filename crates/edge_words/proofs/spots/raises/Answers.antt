use Rattle.std.proofs.Common.{subst, refl, sym, ◌∙◌, ap}
use Rattle.puz_board.specs.Masks.{has_bit}
use Rattle.edge_words.specs.Words.{RisesOrFalls, bit_number}
use Rattle.edge_words.proofs.EdgeLemmas.{exactly}
use Rattle.edge_words.proofs.spots.raises.Goals as goal

-- the bit with a move's number says of the board that has the word whether its least cost rises or falls by one
pub returns : goal.returns
returns c p tile move b next d moves number word least =
    let tells = word tile move moves.is_index b next d moves refl least in
    subst (λ r. RisesOrFalls r p.tiles next d) (sym (c.bit_of.ensures ∙ ap (has_bit c.args.word) number))
    (exactly (has_bit c.args.word (bit_number tile move)) p.tiles next d tells)
