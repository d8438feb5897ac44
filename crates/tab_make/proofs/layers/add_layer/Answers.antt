use Rattle.std.proofs.Common.{◌++◌, [], ◌∷◌, ap, sym, ◌∙◌, arith}
use Rattle.std.proofs.lemmas.List.{append_assoc}
use Rattle.tab_make.proofs.LayerLemmas.{layer-yes, layer-no}
use Rattle.tab_make.proofs.layers.add_layer.Goals as goal
use Rattle.tab_make.proofs.layers.add_layer.Goals.{then-entries-number+in_ok-push, else-entries-number}

-- the next entry is added where it holds the number, and the layer so far goes up to it
pub loop-number-preserved : goal.loop-number-preserved
loop-number-preserved c =
    let from = c.loop-number.invariant.1 in
    let old = c.args.numbers.now.items in
    let number = c.loop-number.number in
    elim c.if-entries-number.branch [
      | then-entries-number+in_ok-push w ↦ (
        ap (λ v. v.items) w.numbers-is ∙ w.in_ok-push.ensures.items ∙ ap (λ l. l ++ number ∷ []) c.loop-number.invariant.0
            ∙ append_assoc old _ (number ∷ [])
            ∙ ap (λ l. old ++ l) (sym (layer-yes c.args.d c.args.entries.now c.args.from number from w.if-entries-number.true)),
        omega (arith, from),
      )
      | else-entries-number w ↦ (
        ap (λ v. v.items) w.numbers-is ∙ c.loop-number.invariant.0
            ∙ ap (λ l. old ++ l) (sym (layer-no c.args.d c.args.entries.now c.args.from number from w.if-entries-number.false)),
        omega (arith, from),
      )
    ]
