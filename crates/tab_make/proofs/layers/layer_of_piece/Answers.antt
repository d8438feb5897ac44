use Rattle.std.proofs.Common.{◌-◌, ◌++◌, ap, sym, ◌∙◌, arith}
use Rattle.std.proofs.lemmas.List.{append-nil}
use Rattle.tab_make.specs.Layers.{layer_from}
use Rattle.tab_make.proofs.LayerLemmas.{layer-none, layer-between}
use Rattle.tab_make.proofs.layers.layer_of_piece.Goals as goal

-- adding the layer of a block that has some of it makes the layer go up to the block's end
pub blocks-2-preserved-in_ok-add_layer : goal.blocks-2-preserved-in_ok-add_layer
blocks-2-preserved-in_ok-add_layer c =
    let at = c.blocks-2.invariant in
    let from = at.1 in
    let on = c.blocks-2-test.true in
    let next = c.min-next.ensures in
    let block = layer_from c.args.d c.args.entries.now c.blocks-2.at (c.min-next.result - c.blocks-2.at) in (
      c.in_ok-add_layer.ensures ∙ ap (λ l. l ++ block) at.0
          ∙ sym (layer-between c.args.d c.args.entries.now c.args.from c.blocks-2.at c.min-next.result from (omega (arith, on, next))),
      omega (arith, from, on, next),
      omega (arith, next),
    )

-- passing over a block that has none of the layer leaves the layer up to its end
pub blocks-2-preserved : goal.blocks-2-preserved
blocks-2-preserved c =
    let at = c.blocks-2.invariant in
    let from = at.1 in
    let on = c.blocks-2-test.true in
    let next = c.min-next.ensures in
    let end = c.min-end.ensures in
    let few = c.if-count_eq-gt0.false in
    let count = c.count_eq.ensures in
    let none = layer-none c.args.d c.args.entries.now (c.min-next.result - c.blocks-2.at) c.blocks-2.at (omega (arith, on, next, end))
    (sym count ∙ omega (arith, few)) in
    let before = layer_from c.args.d c.args.entries.now c.args.from (c.blocks-2.at - c.args.from) in (
      at.0 ∙ sym (layer-between c.args.d c.args.entries.now c.args.from c.blocks-2.at c.min-next.result from (omega (arith, on, next))
          ∙ ap (λ l. before ++ l) none ∙ append-nil before),
      omega (arith, from, on, next),
      omega (arith, next),
    )
