use Rattle.std.proofs.Common.{◌+◌, ◌/◌, ◌%◌, min, subst, ◌≡◌, ◌<◌, ◌-◌, ◌*◌, ◌≤◌, arith, length, sym, ap, ◌∙◌}
use Rattle.rayon.proofs.ListFacts.{IfOk-then}
use Rattle.std.proofs.lemmas.List.FromFn.{length-range_with_len, get_or-range_with_len}
use Rattle.std.specs.List.{range_with_len}
use Rattle.tab_make.specs.Layers.{layer_from}
use Rattle.tab_make.specs.Pieces.{all_items}
use Rattle.tab_make.proofs.LayerLemmas.{all_oks, pieces-joined}
use Rattle.tab_make.proofs.layers.layer.Goals as goal

-- each piece begins within the entries
pub collect-requires-clause-ready : goal.collect-requires-clause-ready
collect-requires-clause-ready g c κs within =
    let ends = c.into_par_iter.ensures in
    let pieces = c.div_ceil-pieces.result in
    let count = length c.args.entries.now in
    let most : pieces ≡ count / 65536 + min 1 (count % 65536) = c.div_ceil-pieces.ensures in
    rw (c.map.ensures.base, c.map.ensures.f, c.with_min_len.ensures.base, ends.0, ends.1) (λ k d lt.
    let low : k < pieces - 0 = omega (arith, lt, length-range_with_len 0 (pieces - 0)) in
    let here = get_or-range_with_len 0 (pieces - 0) k d low in
    ((c.requires, subst (λ i. i * 65536 ≤ count) (sym here) (omega (arith, low, most))), (λ y kept. tt)))

-- the layers of all pieces one after the other are the layer of the table
pub returns : goal.returns
returns g c = IfOk-then c.joined.result _ _ c.joined.ensures (λ v h.
    let ends = c.into_par_iter.ensures in
    let entries = c.args.entries.now in
    let count = length entries in
    let pieces = c.div_ceil-pieces.result in
    let most : pieces ≡ count / 65536 + min 1 (count % 65536) = c.div_ceil-pieces.ensures in
    let whole : pieces - 0 ≡ pieces = omega arith in
    let from_0 : count - 0 ≡ count = omega arith in
    let chain = rw (c.in_ok-lists.was, c.map.ensures.base, c.map.ensures.f, c.with_min_len.ensures.base, ends.0, ends.1) at c.in_ok-collect.ensures in
    let lists = c.in_ok-lists.lists.items in
    let each = all_oks _ (λ k numbers. numbers.items ≡ layer_from c.args.d entries (k * 65536) (min 65536 (count - k * 65536))) (λ k numbers is. is)
    chain.1.0 (range_with_len 0 pieces) chain.0 chain.2.0 lists (chain.1.1 ∙ ap (range_with_len 0) whole) chain.2.1 chain.2.2 chain.1.2 in
    h ∙ ap all_items c.deref.ensures.value ∙ pieces-joined c.args.d entries count 0 pieces (omega (arith, most)) lists each
    ∙ ap (layer_from c.args.d entries 0) from_0)
