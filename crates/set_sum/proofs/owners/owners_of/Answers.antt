use Rattle.std.proofs.Common.{◌≡◌, inl, inr, sym, ◌∙◌, ap, subst, arith}
use Rattle.std.specs.Int.{bit_at}
use Rattle.std.proofs.lemmas.Bool.{cases_eq}
use Rattle.set_sum.specs.Parts.{no_part, part_pattern, part_shown, parts_shown}
use Rattle.set_sum.proofs.KnownLemmas.{owner_at, owner_kept}
use Rattle.set_sum.proofs.ListLemmas.{all_at, mapped_at, read_at}
use Rattle.set_sum.proofs.PartLemmas.{pattern_exact}
use Rattle.set_sum.proofs.owners.owners_of.Goals as goal

-- taking a table's two members for the tile leaves the owners so far and adds them
pub loop-i-preserved : goal.loop-i-preserved
loop-i-preserved c = λ m low.
    let n = c.args.side in
    let tables = c.args.tables.now in
    let i = c.loop-i.i in
    let part = c.index-tables-i.result in
    let mask = c.mask-mask.result in
    let two = c.with_if-owners-in-loop-i.result in
    let inside = c.loop-i-test.true in
    let side : (part_pattern part).side ≡ n =
    subst (λ p. (part_pattern p).side ≡ n) (read_at tables i part part inside c.index-tables-i.is)
    (all_at (λ p. (part_pattern p).side ≡ n) tables i part inside c.requires.side) in
    elim (cases_eq m.table i) [
      | inl e ↦
          owner_at (parts_shown tables) i part (sym (mapped_at part_shown tables i part no_part inside c.index-tables-i.is)) n c.args.tile mask
          c.with_if-owners.result two
          (c.mask-mask.ensures ∙ ap (λ p. p.tiles) c.pattern.ensures.pattern) (pattern_exact part c.pattern.ensures.exact) side
          (λ set. c.with_if-owners.ensures.here (c.has_cell.ensures.1 set))
          (λ set. c.with_if-owners-in-loop-i.ensures.here (c.has_cell-in-loop-i.ensures.1
          (subst (λ x. bit_at mask x ≡ 1) (sym c.transposed_cell-transposed.ensures.value) set)))
          c.with_if-owners-in-loop-i.ensures.others m e
      | inr ne ↦
          owner_kept n (parts_shown tables) c.args.tile c.loop-i.owners two m
          (λ x set. c.with_if-owners-in-loop-i.ensures.others x (c.with_if-owners.ensures.others x set)) (c.loop-i.invariant m (omega arith))
    ]
