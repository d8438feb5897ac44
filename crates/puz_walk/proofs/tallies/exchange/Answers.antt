use Rattle.std.proofs.Common.{◌≡◌, ℕ, List, ◌+◌, ◌-◌, ◌*◌, ◌^◌, ◌<◌, ◌≤◌, get_or, length, slice_index, slice_set, Some, None, sym, subst, arith}
use Rattle.puz_walk.specs.StoredWords.{HasNoOwner, IsOwner}
use Rattle.puz_walk.specs.declared.owners.Owner.{Owner}
use Rattle.puz_walk.specs.declared.tallies.Tally.{Tally}
use Rattle.puz_walk.proofs.ExchangeLemmas.{IsHalf, half_moves, half_still, half_tallied, half_told, new_fits, old_fits, place_low}
use Rattle.puz_walk.proofs.TallyLemmas.{owner_at, own_table, tile_low}
use Rattle.puz_walk.proofs.tallies.exchange.Goals.{After-from, in-Some, in_default}
use Rattle.puz_walk.proofs.tallies.exchange.Goals as goal

-- the set is there
low : (c : After-from) → c.loop-set.set < length c.args.bundle.now.sets
low c = let more = c.loop-set-test.true in let count = c.sets-set-end.ensures.sets in omega arith

-- the sets so far have followed the move
half : (c : After-from) → IsHalf c.args.bundle.now c.requires.0 c.requires.1 c.args.tile c.loop-set.set c.loop-set.tally c.loop-set.told
half c = c.loop-set.invariant c.requires.0 c.requires.1 c.requires.2 c.requires.3 c.requires.4 c.requires.5

-- and the owner is the one of the tile
owns : (c : After-from) (owner : Owner) → get_or c.loop-set.tally.owners (32 * c.from-number.result + c.from.result) None ≡ Some owner
    → IsOwner c.args.bundle.now c.loop-set.set c.args.tile owner
owns c owner is =
    let v = c.args.bundle.now in
    owner_at v c.loop-set.tally.owners (half c).owners c.loop-set.set c.args.tile (low c)
    (tile_low v c.requires.0 c.requires.1 c.args.tile c.requires.2) c.from-number.result c.from.result c.from-number.ensures c.from.ensures (Some owner) is

-- the owner of the moved tile has a table with a number below 16, so that its entry has a place
pub entry_place-place-requires : goal.entry_place-place-requires
entry_place-place-requires c =
    let at = (goal.at.entry_place-place-requires c).After-from in
    own_table c.args.bundle.now c.requires.0 c.requires.1 c.args.tile c.requires.2 c.sets-set-end.ensures.bundle c.loop-set.set
    (low at) c.in-Some.owner (owns at c.in-Some.owner c.in-Some.is)

-- the old entry of the tile's owner is read at a place that the tally has
pub bounds-tally-place : goal.bounds-tally-place
bounds-tally-place c =
    let at = (goal.at.bounds-tally-place c).After-from in
    place_low c.args.bundle.now c.requires.0 c.requires.1 c.args.tile c.loop-set.set c.loop-set.tally c.loop-set.told
    (half at) c.requires.2 c.sets-set-end.ensures.bundle (low at)
    c.in-Some.owner (owns at c.in-Some.owner c.in-Some.is) c.entry_place-place.result c.entry_place-place.ensures

-- the owner's old entry is no more than the sum of its set, so that it can be taken away
pub overflow_sub-tally : goal.overflow_sub-tally
overflow_sub-tally c =
    let at = (goal.at.overflow_sub-tally c).After-from in
    let place = c.entry_place-place.result in
    subst (λ k. slice_index c.loop-set.tally.entries place ≤ slice_index c.loop-set.tally.sums k) (sym c.from-number.ensures)
    (old_fits c.args.bundle.now c.requires.0 c.requires.1 c.args.tile c.loop-set.set c.loop-set.tally c.loop-set.told
    (half at) c.requires.2 c.sets-set-end.ensures.bundle (low at)
    c.in-Some.owner (owns at c.in-Some.owner c.in-Some.is) place c.entry_place-place.ensures)

-- the sum of a set with its owner's new entry in place of the old one fits into a byte
pub overflow_add-tally : goal.overflow_add-tally
overflow_add-tally c =
    let at = (goal.at.overflow_add-tally c).After-from in
    let place = c.entry_place-place.result in
    let fits = new_fits c.args.bundle.now c.requires.0 c.requires.1 c.args.tile c.loop-set.set c.loop-set.tally c.loop-set.told
    (half at) c.requires.2 c.sets-set-end.ensures.bundle (low at)
    c.in-Some.owner (owns at c.in-Some.owner c.in-Some.is) place c.entry_place-place.ensures c.requires.5 in
    let same = subst (λ k. slice_index c.loop-set.tally.sums k - slice_index c.loop-set.tally.entries place + slice_index c.loop-set.told k < 2 ^ 8)
    (sym c.from-number.ensures) fits in
    omega arith

-- the new entry of the tile's owner is written at a place that the tally has
pub bounds-tally-place-in-Some : goal.bounds-tally-place-in-Some
bounds-tally-place-in-Some c =
    let at = (goal.at.bounds-tally-place-in-Some c).After-from in
    place_low c.args.bundle.now c.requires.0 c.requires.1 c.args.tile c.loop-set.set c.loop-set.tally c.loop-set.told
    (half at) c.requires.2 c.sets-set-end.ensures.bundle (low at)
    c.in-Some.owner (owns at c.in-Some.owner c.in-Some.is) c.entry_place-place.result c.entry_place-place.ensures

-- the tally after the exchange of one entry
abbrev stepped : Tally → List ℕ → ℕ → ℕ → Tally
stepped tally told number place = record {
  owners = tally.owners;
  sums = slice_set tally.sums number (slice_index tally.sums number - slice_index tally.entries place + slice_index told number);
  first = tally.first;
  entries = slice_set tally.entries place (slice_index told number);
}

-- where one more set exchanges the entry of its owner, or has no owner of the tile, one more set has followed the move
pub loop-set-preserved : goal.loop-set-preserved
loop-set-preserved c b next slides kept says below =
    let v = c.args.bundle.now in
    let at = (goal.at.loop-set-preserved c).After-from in
    let set = c.loop-set.set in
    let tally : Tally = c.loop-set.tally in
    let told = c.loop-set.told in
    let so_far = c.loop-set.invariant b next slides kept says below in
    elim c.match-tally-number.branch [
      | in-Some w ↦
          let owner : Owner = w.in-Some.owner in
          let place = w.entry_place-place.result in
          let is : IsOwner v set c.args.tile owner = owner_at v tally.owners so_far.owners set c.args.tile (low at)
          (tile_low v b next c.args.tile slides) c.from-number.result c.from.result c.from-number.ensures c.from.ensures (Some owner) w.in-Some.is in
          let follows = half_moves v b next c.args.tile set tally told so_far slides c.sets-set-end.ensures.bundle
          (low at) owner is place w.entry_place-place.ensures below in
          let moved : IsHalf v b next c.args.tile (set + 1) (stepped tally told c.from-number.result place)
          (slice_set told c.from-number.result (slice_index tally.entries place)) =
          subst (λ k. IsHalf v b next c.args.tile (set + 1) (stepped tally told k place) (slice_set told k (slice_index tally.entries place)))
          (sym c.from-number.ensures) follows in
          subst (IsHalf v b next c.args.tile (set + 1) c.match-tally-number.tally) (sym w.told-is)
          (subst (λ new. IsHalf v b next c.args.tile (set + 1) new (slice_set told c.from-number.result (slice_index tally.entries place)))
          (sym w.tally-is) moved)
      | in_default w ↦
          let none : HasNoOwner v set c.args.tile = owner_at v tally.owners so_far.owners set c.args.tile (low at)
          (tile_low v b next c.args.tile slides) c.from-number.result c.from.result c.from-number.ensures c.from.ensures None w.in_default.is in
          subst (IsHalf v b next c.args.tile (set + 1) c.match-tally-number.tally) (sym w.told-is)
          (subst (λ new. IsHalf v b next c.args.tile (set + 1) new told) (sym w.tally-is)
          (half_still v b next c.args.tile set tally told so_far slides c.sets-set-end.ensures.bundle (low at) none))
    ]

-- after the exchange in all sets, the tally is that of the board after the slide
pub returns-clause-tally : goal.returns-clause-tally
returns-clause-tally c b next slides kept says below =
    half_tallied c.args.bundle.now b next c.args.tile c.loop-set.set c.loop-set.tally c.loop-set.told (c.loop-set.invariant b next slides kept says below)
    (let done = c.loop-set-test.false in let count = c.sets-set-end.ensures.sets in omega arith)

-- after the exchange in all sets, the list has what the owners of the tile say of the board before the slide
pub returns-clause-told : goal.returns-clause-told
returns-clause-told c b next slides kept says below =
    half_told c.args.bundle.now b next c.args.tile c.loop-set.set c.loop-set.tally c.loop-set.told (c.loop-set.invariant b next slides kept says below)
    (let done = c.loop-set-test.false in let count = c.sets-set-end.ensures.sets in omega arith)
