use Rattle.std.proofs.Common.{slice_index, ◌∙◌, ap, subst}
use Rattle.edge_words.specs.Spots.{IsAddedBy}
use Rattle.edge_words.proofs.SpotLemmas.{stepped}
use Rattle.edge_words.proofs.spots.index_step.Goals as goal

-- what is added to an index by a tile's stride and the move is what the move does to it, modulo 2^32
pub returns : goal.returns
returns c b next moves =
    let p = c.args.pattern.now in
    let side = c.from-side.ensures ∙ c.get.ensures.value ∙ c.side.ensures.side in
    let strides = c.strides_of-strides.result in
    let stride = ap (slice_index strides) c.from.ensures ∙ c.strides_of-strides.ensures.each c.args.tile moves.is_index in
    stepped p c.size-size.ensures.pattern c.requires.few c.args.tile c.args.mv b next moves (slice_index strides c.from.result) stride c.added_by.result
    (subst (λ n. IsAddedBy (slice_index strides c.from.result) n c.args.mv c.added_by.result) side c.added_by.ensures)
