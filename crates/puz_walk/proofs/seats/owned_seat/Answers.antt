use Rattle.std.proofs.Common.{◌≡◌, ◌<◌, ◌≤◌, length, refl, sym, ◌∙◌, ap, subst}
use Rattle.edge_words.specs.Indexes.{index_count, most_words}
use Rattle.edge_words.specs.Spots.{IsIndexStep}
use Rattle.set_sum.specs.Parts.{part_pattern}
use Rattle.set_sum.proofs.PartLemmas.{shown_tiles}
use Rattle.puz_walk.specs.StoredWords.{move_for}
use Rattle.puz_walk.specs.WordBundles.{pattern_at}
use Rattle.puz_walk.proofs.OwnerLemmas.{member_there}
use Rattle.puz_walk.proofs.seats.owned_seat.Goals as goal
use Rattle.puz_walk.proofs.seats.owned_seat.Goals.{After-part}

-- the pattern of the owner's table
pattern : (c : After-part) → part_pattern c.part.result.now ≡ pattern_at c.args.bundle.now c.args.owner.member.table
pattern c = λ i. record {
  side = c.part.ensures.side i;
  tiles = (shown_tiles c.part.result.now ∙ ap (λ p. p.tiles) c.part.ensures.part) i;
}

-- that pattern has no more indexes than there may be words
pub step_for-requires-clause-few : goal.step_for-requires-clause-few
step_for-requires-clause-few c =
    let v = c.args.bundle.now in
    let owner = c.args.owner in
    let is = c.requires.owner.1 in
    let there = member_there v c.sets-sets.ensures.bundle c.args.set c.requires.set is.number owner.member is.member in
    subst (λ p. index_count p ≤ most_words) (sym (pattern (goal.at.step_for-requires-clause-few c).After-part))
    (c.requires.tables.each owner.member.table there).few

-- the owner's tile is one of it
pub step_for-requires-clause-tile : goal.step_for-requires-clause-tile
step_for-requires-clause-tile c =
    subst (λ p. c.args.owner.tile < length p.tiles) (sym (pattern (goal.at.step_for-requires-clause-tile c).After-part)) c.requires.owner.1.low

-- what is built for the owner of a tile is its seat: the index's place, the move's bit and index step, and that there is one owner
pub returns : goal.returns
returns c =
    let owner = c.args.owner in
    record {
      table = refl;
      place = c.member_place.ensures;
      bit = c.bit_for.ensures;
      owners = refl;
      step = subst (λ p. IsIndexStep p owner.tile (move_for owner.member c.args.mv) c.step_for.result)
          (pattern (goal.at.returns c).After-part) c.step_for.ensures;
    }
