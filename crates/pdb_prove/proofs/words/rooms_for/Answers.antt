use Rattle.std.proofs.Common.{◌≡◌, ◌∷◌, ◌∙◌, [], ap, arith, length-append, sym}
use Rattle.set_sum.proofs.PartLemmas.{shown_tiles}
use Rattle.puz_walk.specs.WordBundles.{pattern_at}
use Rattle.pdb_prove.proofs.WordLemmas.{more_rooms}
use Rattle.pdb_prove.proofs.words.rooms_for.Goals as goal

-- with memory for the words of one table more there is memory for those of the tables so far and of this one
pub loop-number-preserved : goal.loop-number-preserved
loop-number-preserved c =
    let rooms = c.loop-number.rooms.items in
    let room = c.in-Some.room in
    let v = c.args.bundle.now in
    let count = c.loop-number.invariant.size in
    let tiles = shown_tiles c.part.result.now ∙ ap (λ p. p.tiles) c.part.ensures.part in
    let here : c.pattern.result ≡ pattern_at v c.loop-number.number = c.pattern.ensures.pattern
    ∙ λ i. record { side = c.part.ensures.side i; tiles = tiles i } in
    let pattern = rw c.in-Some.is at c.in_ok-room.ensures.some in
    rw c.in_ok-push.ensures.items (record {
      size = omega (arith, length-append rooms (room ∷ []), count);
      each = more_rooms v rooms room c.loop-number.invariant.each (pattern ∙ here ∙ ap (pattern_at v) (sym count));
    })
