use Rattle.std.proofs.Common.{◌++◌, take, ap, sym, ◌∙◌}
use Rattle.tab_make.specs.Pieces.{all_items}
use Rattle.tab_make.proofs.LayerLemmas.{all_items-more}
use Rattle.tab_make.proofs.layers.joined.Goals as goal

-- one list more behind the others makes all lists so far one after the other
pub loop-list-preserved : goal.loop-list-preserved
loop-list-preserved c =
    let list = c.list-item.result in
    c.in_ok-extend_from_slice.ensures.items ∙ ap (λ l. l ++ c.deref.result.now) c.loop-list.invariant
    ∙ ap (λ l. all_items (take c.loop-list.list-index c.args.lists.now) ++ l) c.deref.ensures.value
    ∙ sym (all_items-more c.args.lists.now c.loop-list.list-index list c.loop-list-test.true c.list-item.is)
