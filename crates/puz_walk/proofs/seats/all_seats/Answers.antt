use Rattle.std.proofs.Common.{◌≡◌, ◌*◌, ◌/◌, ◌%◌, ◌<◌, get_or, [], ◌∷◌, length, length-set, inl, inr, sym, ◌∙◌, ap, subst, arith}
use Rattle.std.proofs.Common.{get_or-set_same, get_or-set_other}
use Rattle.std.specs.Prelude.{slice_index_or, slice_set}
use Rattle.std.proofs.lemmas.Bool.{cases_eq}
use Rattle.puz_board.specs.declared.moves.Move.TheVariants.{Up, Down, Left, Right}
use Rattle.puz_board.proofs.CellLemmas.{few_cells}
use Rattle.edge_words.specs.Words.{move_of, way_of}
use Rattle.puz_walk.specs.Seats.{IsSeatOf, seat_place}
use Rattle.puz_walk.proofs.MoveLemmas.{move_at, move_back, way_low}
use Rattle.puz_walk.proofs.seats.all_seats.Goals as goal
use Rattle.puz_walk.proofs.seats.all_seats.Goals.{then-tile-cells, else-tile-cells}

-- with one more seat put in, all places so far have their seats
pub loop-place-preserved : goal.loop-place-preserved
loop-place-preserved c = elim c.if-tile-cells.branch [
  | then-tile-cells w ↦
      let v = c.args.bundle.now in
      let place = c.loop-place.place in
      let room : length c.loop-place.seats ≡ 2048 = c.loop-place.invariant.room in
      let there : IsSeatOf v (place / 128) (place / 4 % 32) (get_or (Up ∷ Down ∷ Left ∷ Right ∷ []) w.from.result Up) w.seat_of.result = w.seat_of.ensures in
      let low : w.from-then-tile-cells.result < length c.loop-place.seats = (
      let sets = c.sets.ensures.sets in
      let most = c.sets.ensures.bundle.few_sets in
      let more = c.loop-place-test.true in
      let end = c.from-place-end.ensures in
      let same = w.from-then-tile-cells.ensures in
      omega arith) in
      record {
        room = ap length w.seats-is ∙ length-set _ _ _ ∙ room;
        each = λ k none l tile. elim (cases_eq k place) [
          | inl e ↦
              let at : get_or c.if-tile-cells.seats k none ≡ w.seat_of.result =
              ap (λ xs. slice_index_or xs k none) w.seats-is
              ∙ ap (λ i. slice_index_or (slice_set c.loop-place.seats w.from-then-tile-cells.result w.seat_of.result) i none)
              (e ∙ sym w.from-then-tile-cells.ensures)
              ∙ get_or-set_same c.loop-place.seats w.from-then-tile-cells.result w.seat_of.result none low in
              subst (λ i. IsSeatOf v (i / 128) (i / 4 % 32) (move_of i) (get_or c.if-tile-cells.seats k none)) (sym e)
              (subst (IsSeatOf v (place / 128) (place / 4 % 32) (move_of place)) (sym at)
              (subst (λ move. IsSeatOf v (place / 128) (place / 4 % 32) move w.seat_of.result) (move_at w.from.result place w.from.ensures) there))
          | inr ne ↦
              let at : get_or c.if-tile-cells.seats k none ≡ get_or c.loop-place.seats k none =
              ap (λ xs. slice_index_or xs k none) w.seats-is
              ∙ get_or-set_other c.loop-place.seats w.from-then-tile-cells.result k w.seat_of.result none (λ o. ne (o ∙ w.from-then-tile-cells.ensures)) in
              subst (IsSeatOf v (k / 128) (k / 4 % 32) (move_of k)) (sym at) (c.loop-place.invariant.each k none (omega arith) tile)
        ];
      }
  | else-tile-cells w ↦
      let v = c.args.bundle.now in
      let place = c.loop-place.place in
      record {
        room = ap length w.seats-is ∙ c.loop-place.invariant.room;
        each = λ k none l tile.
            subst (λ xs. IsSeatOf v (k / 128) (k / 4 % 32) (move_of k) (get_or xs k none)) (sym w.seats-is)
            (c.loop-place.invariant.each k none (elim (cases_eq k place) [
              | inl e ↦
                  let high = w.if-tile-cells.false in
                  let cells = c.cells-cells.ensures.value in
                  let square = ap (λ n. n * n) c.side.ensures.side in
                  let same = ap (λ i. i / 4 % 32) e in
                  absurd (omega arith)
              | inr ne ↦ omega arith
            ]) tile);
      }
]

-- at the end each place has its seat, and so each set, tile and move
pub returns : goal.returns
returns c = record {
  room = c.loop-place.invariant.room;
  each = λ set tile move none some inside.
      let v = c.args.bundle.now in
      let k = seat_place set tile move in
      let few = few_cells v.side c.sets.ensures.bundle.low c.sets.ensures.bundle.high in
      let way = way_low move in
      let set_is : k / 128 ≡ set = omega arith in
      let tile_is : k / 4 % 32 ≡ tile = omega arith in
      let move_is : k % 4 ≡ way_of move = omega arith in
      let low : k < c.loop-place.place = (
      let sets = c.sets.ensures.sets in
      let end = c.from-place-end.ensures in
      let done = c.loop-place-test.false in
      omega arith) in
      let there = c.loop-place.invariant.each k none low (subst (λ t. t < v.side * v.side) (sym tile_is) inside) in
      subst (λ s. IsSeatOf v s tile move (slice_index_or c.loop-place.seats k none)) set_is
      (subst (λ t. IsSeatOf v (k / 128) t move (slice_index_or c.loop-place.seats k none)) tile_is
      (subst (λ m. IsSeatOf v (k / 128) (k / 4 % 32) m (slice_index_or c.loop-place.seats k none)) (move_back move k move_is) there));
}
