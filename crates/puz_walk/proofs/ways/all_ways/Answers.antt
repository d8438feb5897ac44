use Rattle.std.proofs.Common.{◌≡◌, ◌<◌, ◌/◌, get_or, [], ◌∷◌, None, length, length-set, inl, inr, sym, ◌∙◌, ap, arith}
use Rattle.std.proofs.Common.{get_or-set_same, get_or-set_other}
use Rattle.std.specs.Prelude.{slice_index_or, slice_set}
use Rattle.std.proofs.lemmas.Bool.{cases_eq}
use Rattle.puz_board.specs.Cells.{step_of}
use Rattle.puz_board.specs.declared.moves.Move.TheVariants.{Up, Down, Left, Right}
use Rattle.puz_board.proofs.CellLemmas.{few_cells}
use Rattle.edge_words.specs.Words.{move_of}
use Rattle.puz_walk.proofs.MoveLemmas.{move_at}
use Rattle.puz_walk.proofs.ways.all_ways.Goals as goal

-- with the cell of one more move put in, all places so far have the cells to which their moves lead
pub loop-place-preserved : goal.loop-place-preserved
loop-place-preserved c = record {
  room = length-set _ _ _ ∙ c.loop-place.invariant.room;
  each = λ k l. elim (cases_eq k c.loop-place.place) [
    | inl e ↦
        let place = c.loop-place.place in
        let there : c.step.result ≡ step_of c.args.side (place / 4) (get_or (Up ∷ Down ∷ Left ∷ Right ∷ []) c.from.result Up) = c.step.ensures.cell in
        let room : length c.loop-place.ways ≡ 100 = c.loop-place.invariant.room in
        let low : c.from-in-loop-place.result < length c.loop-place.ways = (
        let most = few_cells c.args.side c.cells-place-end.ensures.low c.cells-place-end.ensures.high in
        let count = c.cells-place-end.ensures.value in
        let more = c.loop-place-test.true in
        let same = c.from-in-loop-place.ensures in
        omega arith) in
        ap (λ i. slice_index_or (slice_set c.loop-place.ways c.from-in-loop-place.result c.step.result) i None) (e ∙ sym c.from-in-loop-place.ensures) ∙
        get_or-set_same c.loop-place.ways c.from-in-loop-place.result c.step.result None low ∙ there ∙
        ap (step_of c.args.side (place / 4)) (move_at c.from.result place c.from.ensures) ∙
        ap (λ i. step_of c.args.side (i / 4) (move_of i)) (sym e)
    | inr ne ↦ get_or-set_other c.loop-place.ways c.from-in-loop-place.result k c.step.result None (λ w. ne (w ∙ c.from-in-loop-place.ensures))
        ∙ c.loop-place.invariant.each k (omega arith)
  ];
}
