use Rattle.std.proofs.Common.{◌≡◌, ◌<◌, length, length-set, inl, inr, sym, ◌∙◌, ap, subst, arith}
use Rattle.std.proofs.Common.{get_or-set_same, get_or-set_other}
use Rattle.std.specs.Prelude.{slice_index_or, slice_set}
use Rattle.std.proofs.lemmas.Bool.{cases_eq}
use Rattle.puz_walk.specs.Pasts.{IsHeldOf}
use Rattle.puz_walk.proofs.pasts.held_of.Goals as goal
use Rattle.puz_walk.proofs.pasts.held_of.Goals.{then-set-sets, else-set-sets}

-- with what is held of one more set put in, it is held of the sets so far
pub loop-set-preserved : goal.loop-set-preserved
loop-set-preserved c =
    let v = c.args.bundle.now in
    let tile = c.args.slide.tile in
    let set = c.loop-set.set in
    let room = c.loop-set.invariant.room in
    let count = c.requires.sets in
    elim c.if-set-sets.branch [
      | then-set-sets w ↦
          let some : set < 2 = c.loop-set-test.true in
          let place = w.from.ensures in
          let low : w.from.result < length c.loop-set.held = omega arith in
          record {
            room = ap length w.held-is ∙ length-set _ _ _ ∙ room;
            each = λ b are k none l there. elim (cases_eq k set) [
              | inl e ↦
                  let at : slice_index_or c.if-set-sets.held k none ≡ w.hold.result =
                  ap (λ xs. slice_index_or xs k none) w.held-is
                  ∙ ap (λ i. slice_index_or (slice_set c.loop-set.held w.from.result w.hold.result) i none) (e ∙ sym place)
                  ∙ get_or-set_same c.loop-set.held w.from.result w.hold.result none low in
                  subst (λ i. IsHeldOf v b i tile (slice_index_or c.if-set-sets.held k none)) (sym e)
                  (subst (IsHeldOf v b set tile) (sym at) (w.hold.ensures b (are set (omega arith))))
              | inr ne ↦
                  let at : slice_index_or c.if-set-sets.held k none ≡ slice_index_or c.loop-set.held k none =
                  ap (λ xs. slice_index_or xs k none) w.held-is
                  ∙ get_or-set_other c.loop-set.held w.from.result k w.hold.result none (λ o. ne (o ∙ place)) in
                  subst (IsHeldOf v b k tile) (sym at) (c.loop-set.invariant.each b are k none (omega arith) there)
            ];
          }
      | else-set-sets w ↦
          let none_left = w.if-set-sets.false in
          record {
            room = ap length w.held-is ∙ room;
            each = λ b are k none l there.
                subst (λ xs. IsHeldOf v b k tile (slice_index_or xs k none)) (sym w.held-is) (c.loop-set.invariant.each b are k none (omega arith) there);
          }
    ]

-- after the first two sets, it is held of each of them
pub returns : goal.returns
returns c b are = record {
  room = c.loop-set.invariant.room;
  each = λ set none two low. c.loop-set.invariant.each b are set none (let done = c.loop-set-test.false in omega arith) low;
}
