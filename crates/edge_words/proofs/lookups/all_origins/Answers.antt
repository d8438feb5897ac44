use Rattle.std.proofs.Common.{◌≡◌, ◌<◌, ◌/◌, None, length, length-set, inl, inr, sym, ◌∙◌, ap, arith, get_or-set_same, get_or-set_other}
use Rattle.std.specs.Prelude.{slice_index_or, slice_set}
use Rattle.std.proofs.lemmas.Bool.{cases_eq}
use Rattle.puz_board.specs.Cells.{reverse_of, step_of}
use Rattle.puz_board.proofs.CellLemmas.{few_cells}
use Rattle.edge_words.specs.Words.{move_of}
use Rattle.edge_words.proofs.lookups.all_origins.Goals as goal

-- with the cell of one more reverse move put in, all places so far have the cells from which their moves lead
pub loop-place-preserved : goal.loop-place-preserved
loop-place-preserved c = record {
  room = length-set _ _ _ ∙ c.loop-place.invariant.room;
  each = λ k l. elim (cases_eq k c.loop-place.place) [
    | inl e ↦
        let place = c.loop-place.place in
        let room : length c.loop-place.origins ≡ 100 = c.loop-place.invariant.room in
        let low : c.from.result < length c.loop-place.origins = (
        let most = few_cells c.args.side c.cells-place-end.ensures.low c.cells-place-end.ensures.high in
        let count = c.cells-place-end.ensures.value in
        let more = c.loop-place-test.true in
        let same = c.from.ensures in
        omega arith) in
        let there : c.step.result ≡ step_of c.args.side (place / 4) (reverse_of (move_of place)) =
        c.step.ensures.cell ∙ ap (step_of c.args.side (place / 4)) (c.reverse-back.ensures.value ∙ ap reverse_of c.move_of.ensures) in
        ap (λ i. slice_index_or (slice_set c.loop-place.origins c.from.result c.step.result) i None) (e ∙ sym c.from.ensures) ∙
        get_or-set_same c.loop-place.origins c.from.result c.step.result None low ∙ there ∙
        ap (λ i. step_of c.args.side (i / 4) (reverse_of (move_of i))) (sym e)
    | inr ne ↦ get_or-set_other c.loop-place.origins c.from.result k c.step.result None (λ w. ne (w ∙ c.from.ensures))
        ∙ c.loop-place.invariant.each k (omega arith)
  ];
}

-- after the places of all cells and moves, the origins are those of the side
pub returns : goal.returns
returns c = record {
  room = c.loop-place.invariant.room;
  each = λ k low. c.loop-place.invariant.each k (let done = c.loop-place-test.false in let count = c.cells-place-end.ensures.value in omega arith);
}
