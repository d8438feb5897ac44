use Rattle.std.proofs.Common.{◌≡◌, ◌+◌, ◌-◌, ◌*◌, ◌<◌, ◌≤◌, get_or, slice_index, Some, None, sym, subst, arith}
use Rattle.set_sum.specs.Bundles.{IsBundle}
use Rattle.puz_walk.specs.StoredWords.{HasNoOwner, IsOwner}
use Rattle.puz_walk.specs.declared.owners.Owner.{Owner}
use Rattle.puz_walk.proofs.OwnerLemmas.{member_there}
use Rattle.puz_walk.proofs.TallyLemmas.{entry_fits, entry_place_low, moved_cut, moved_low, own_table, own_told, owner_at, still_cut, still_low, tile_low}
use Rattle.puz_walk.proofs.tallies.judged.Goals.{After-from-3}
use Rattle.puz_walk.proofs.tallies.judged.Goals as goal

-- the bundle is one
bundle : (c : After-from-3) → IsBundle c.args.position.now.bundle
bundle c = subst IsBundle c.bundle.ensures c.sets-sets.ensures.bundle

-- the owner is the one of the tile
owns : (c : After-from-3) (owner : Owner) → get_or c.args.tally.now.owners (32 * c.from-2.result + c.from-3.result) None ≡ Some owner
    → IsOwner c.args.position.now.bundle c.args.set c.args.tile owner
owns c owner is =
    let v = c.args.position.now.bundle in
    let tally = c.args.tally.now in
    owner_at v tally.owners c.requires.moved.2.owners c.args.set c.args.tile c.requires.set
    (tile_low v c.requires.moved.0 c.args.position.now.board c.args.tile c.requires.moved.1) c.from-2.result c.from-3.result
    c.from-2.ensures c.from-3.ensures (Some owner) is

-- no member has the tile
none : (c : After-from-3) → get_or c.args.tally.now.owners (32 * c.from-2.result + c.from-3.result) None ≡ None
    → HasNoOwner c.args.position.now.bundle c.args.set c.args.tile
none c is =
    let v = c.args.position.now.bundle in
    let tally = c.args.tally.now in
    owner_at v tally.owners c.requires.moved.2.owners c.args.set c.args.tile c.requires.set
    (tile_low v c.requires.moved.0 c.args.position.now.board c.args.tile c.requires.moved.1) c.from-2.result c.from-3.result
    c.from-2.ensures c.from-3.ensures None is

-- a set without an owner of the tile whose kept sum is below the limit is low
pub returns-then-sum-limit-clause-low : goal.returns-then-sum-limit-clause-low
returns-then-sum-limit-clause-low c =
    let at = (goal.at.returns-then-sum-limit-clause-low c).After-from-3 in
    let tally = c.args.tally.now in
    still_low c.args.position.now.bundle (bundle at) c.requires.moved.0 c.args.position.now.board c.args.tile c.requires.moved.1 tally
    c.requires.moved.2 c.args.set c.requires.set c.args.limit (none at c.in_default.is)
    (subst (λ k. slice_index tally.sums k < c.args.limit) c.from.ensures c.if-sum-limit.true)

-- a set without an owner of the tile whose kept sum isn't below the limit makes the board go beyond it
pub returns-else-sum-limit-clause-cut : goal.returns-else-sum-limit-clause-cut
returns-else-sum-limit-clause-cut c =
    let at = (goal.at.returns-else-sum-limit-clause-cut c).After-from-3 in
    let tally = c.args.tally.now in
    still_cut c.args.position.now.bundle (bundle at) c.requires.moved.0 c.args.position.now.board c.args.tile c.requires.moved.1 tally
    c.requires.moved.2 c.args.set c.requires.set c.args.limit (none at c.in_default.is)
    (λ below. let l = subst (λ k. slice_index tally.sums k < c.args.limit) (sym c.from.ensures) below in let no = c.if-sum-limit.false in omega arith)

-- the owner that is found in a judged set has a table with a number below 16
pub entry_place-requires : goal.entry_place-requires
entry_place-requires c =
    let at = (goal.at.entry_place-requires c).After-from-3 in
    own_table c.args.position.now.bundle c.requires.moved.0 c.args.position.now.board c.args.tile c.requires.moved.1
    (bundle at) c.args.set c.requires.set c.in-Some.owner (owns at c.in-Some.owner c.in-Some.is)

-- the entry of the owner in a judged set has a place that the tally has
pub bounds-tally-entry_place : goal.bounds-tally-entry_place
bounds-tally-entry_place c =
    let at = (goal.at.bounds-tally-entry_place c).After-from-3 in
    let v = c.args.position.now.bundle in
    let table = own_table v c.requires.moved.0 c.args.position.now.board c.args.tile c.requires.moved.1
    (bundle at) c.args.set c.requires.set c.in-Some.owner (owns at c.in-Some.owner c.in-Some.is) in
    let few = (bundle at).few_sets in
    let there = c.requires.set in
    subst (λ k. k < 512) (sym c.entry_place.ensures) (entry_place_low c.args.set c.in-Some.owner.member (omega arith) table)

-- the owner's entry before the move is no more than the sum of the judged set
pub overflow_sub-others : goal.overflow_sub-others
overflow_sub-others c =
    let at = (goal.at.overflow_sub-others c).After-from-3 in
    let tally = c.args.tally.now in
    subst (λ k. slice_index tally.entries c.entry_place.result ≤ slice_index tally.sums k) (sym c.from.ensures)
    (entry_fits c.args.position.now.bundle (bundle at) c.requires.moved.0 c.args.position.now.board c.args.tile c.requires.moved.1 tally
    c.requires.moved.2 c.args.set c.requires.set c.args.limit
    c.in-Some.owner (owns at c.in-Some.owner c.in-Some.is) c.entry_place.result c.entry_place.ensures)

-- the owner in a judged set has a table of the bundle, so that the position has an entry for it
pub entry-entry-requires : goal.entry-entry-requires
entry-entry-requires c =
    let at = (goal.at.entry-entry-requires c).After-from-3 in
    let is = owns at c.in-Some.owner c.in-Some.is in
    member_there c.args.position.now.bundle (bundle at) c.args.set c.requires.set is.number c.in-Some.owner.member is.member

-- the entry that is looked up for the owner of the tile is what the judged set is to answer
pub returns-then-from-clause-told : goal.returns-then-from-clause-told
returns-then-from-clause-told c =
    let at = (goal.at.returns-then-from-clause-told c).After-from-3 in
    own_told c.args.position.now.bundle c.requires.moved.0 c.args.position.now.board c.args.tile c.requires.moved.1
    (bundle at) c.args.set c.requires.set c.in-Some.owner (owns at c.in-Some.owner c.in-Some.is)
    c.args.position.now.board c.entry-entry.result c.entry-entry.ensures

-- a judged set is low where the sum of its other members and the owner's new entry is below the limit
pub returns-then-from-clause-low : goal.returns-then-from-clause-low
returns-then-from-clause-low c =
    let at = (goal.at.returns-then-from-clause-low c).After-from-3 in
    let tally = c.args.tally.now in
    let old = slice_index tally.entries c.entry_place.result in
    moved_low c.args.position.now.bundle (bundle at) c.requires.moved.0 c.args.position.now.board c.args.tile c.requires.moved.1 tally
    c.requires.moved.2 c.args.set c.requires.set c.args.limit
    c.in-Some.owner (owns at c.in-Some.owner c.in-Some.is) c.entry_place.result c.entry_place.ensures c.entry-entry.result c.entry-entry.ensures
    c.requires.limit
    (subst (λ k. slice_index tally.sums k - old + c.entry-entry.result < c.args.limit) c.from.ensures
    (let l = c.if-from.true in let f = c.from-4.ensures in let g = c.from-5.ensures in let h = c.from-6.ensures in omega arith))

-- a judged set goes beyond the limit where the sum of its other members and the owner's new entry isn't below it
pub returns-else-from-clause-cut : goal.returns-else-from-clause-cut
returns-else-from-clause-cut c =
    let at = (goal.at.returns-else-from-clause-cut c).After-from-3 in
    let tally = c.args.tally.now in
    let old = slice_index tally.entries c.entry_place.result in
    moved_cut c.args.position.now.bundle (bundle at) c.requires.moved.0 c.args.position.now.board c.args.tile c.requires.moved.1 tally
    c.requires.moved.2 c.args.set c.requires.set c.args.limit
    c.in-Some.owner (owns at c.in-Some.owner c.in-Some.is) c.entry_place.result c.entry_place.ensures c.entry-entry.result c.entry-entry.ensures
    (λ below. let k = subst (λ k. slice_index tally.sums k - old + c.entry-entry.result < c.args.limit) (sym c.from.ensures) below in
    let l = c.if-from.false in let f = c.from-4.ensures in let g = c.from-5.ensures in let h = c.from-6.ensures in omega arith)
