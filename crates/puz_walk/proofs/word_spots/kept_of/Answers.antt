use Rattle.std.proofs.Common.{◌≡◌, ◌<◌, ◌+◌, ◌*◌, ◌/◌, ◌%◌, cond, eqb, length, length-set, slice_index, slice_set, inl, inr, sym, ◌∙◌, subst, arith}
use Rattle.std.proofs.Common.{get_or-set_same}
use Rattle.std.proofs.lemmas.Bool.{cases_eq}
use Rattle.std.specs.List.{AllByRecursion}
use Rattle.set_sum.specs.Bundles.{set_of}
use Rattle.set_sum.proofs.AnswerLemmas.{all_get}
use Rattle.set_sum.proofs.ListLemmas.{all_at}
use Rattle.puz_walk.specs.WordBundles.{pattern_at}
use Rattle.puz_walk.specs.WordSpots.{IsFoundOn, member_place}
use Rattle.puz_walk.proofs.OwnerLemmas.{found_set, place_low, place_parts}
use Rattle.puz_walk.proofs.word_spots.kept_of.Goals as goal

-- with what is found for one more place, all places so far are kept
pub loop-place-preserved : goal.loop-place-preserved
loop-place-preserved c =
    let v = c.args.bundle.now in
    let b = c.args.board.now in
    let turned = c.transposed-turned.result in
    let place = c.loop-place.place in
    let kept = c.loop-place.kept in
    let found = c.found_for-index.result in
    let room = c.loop-place.invariant.room in
    let low : place < 256 = (let more = c.loop-place-test.true in let from = c.from-place-end.ensures in let count = c.sets.ensures.sets in
    let few = c.sets.ensures.bundle.few_sets in omega arith) in
    let index_here : slice_index (slice_set kept.indexes place found.0) place ≡ found.0 =
    get_or-set_same kept.indexes place found.0 0 (let l = room.indexes_room in omega arith) in
    let word_here : slice_index (slice_set kept.words place found.1) place ≡ found.1 =
    get_or-set_same kept.words place found.1 0 (let l = room.words_room in omega arith) in
    record {
      room = record { indexes_room = length-set _ _ _ ∙ room.indexes_room; words_room = length-set _ _ _ ∙ room.words_room };
      each = λ k l there. elim (cases_eq k place) [
        | inl e ↦
            let p = pattern_at v (place % 16 / 2) in
            let x = cond (eqb (place % 2) 1) turned b in
            subst (λ i. IsFoundOn (pattern_at v (i % 16 / 2)) (cond (eqb (i % 2) 1) turned b) (slice_index (slice_set kept.indexes place found.0) i)
            (slice_index (slice_set kept.words place found.1) i)) (sym e)
            (subst (IsFoundOn p x (slice_index (slice_set kept.indexes place found.0) place)) (sym word_here)
            (subst (λ i. IsFoundOn p x i found.1) (sym index_here)
            (subst (λ o. IsFoundOn p o found.0 found.1) c.chosen-looked_up.ensures.board
            (c.found_for-index.ensures (subst (λ i. i % 16 / 2 < length v.tables) e there)))))
        | inr ne ↦ found_set kept place found.0 found.1 k ne (pattern_at v (k % 16 / 2)) (cond (eqb (k % 2) 1) turned b)
            (c.loop-place.invariant.each k (omega arith) there)
      ];
    }

-- what is found place by place is that of the members of each set
pub returns-clause-each : goal.returns-clause-each
returns-clause-each c set low number m is =
    let v = c.args.bundle.now in
    let b = c.args.board.now in
    let there : m.table < length v.tables = all_get (λ o. o.table < length v.tables) (set_of v set) number m is
    (all_at (AllByRecursion (λ o. o.table < length v.tables)) v.sets set _ low c.sets.ensures.bundle.there) in
    let few = c.sets.ensures.few in
    let small : m.table < 8 = omega arith in
    let place = member_place set m in
    let parts = place_parts set m.table m.is_transposed small in
    let within : place < 16 * set + 16 = place_low set m.table m.is_transposed small in
    let here : place < c.loop-place.place = (let done = c.loop-place-test.false in let from = c.from-place-end.ensures in
    let count = c.sets.ensures.sets in omega arith) in
    let index = slice_index c.loop-place.kept.indexes place in
    let word = slice_index c.loop-place.kept.words place in
    let found = c.loop-place.invariant.each place here (subst (λ t. t < length v.tables) (sym parts.0) there) in
    subst (λ x. IsFoundOn (pattern_at v m.table) (cond m.is_transposed x b) index word) c.transposed-turned.ensures.value
    (subst (λ x. IsFoundOn (pattern_at v m.table) (cond x c.transposed-turned.result b) index word) parts.1
    (subst (λ t. IsFoundOn (pattern_at v t) (cond (eqb (place % 2) 1) c.transposed-turned.result b) index word) parts.0 found))
