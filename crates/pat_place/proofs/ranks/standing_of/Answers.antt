use Rattle.std.proofs.Common.{◌≡◌, ◌+◌, ◌-◌, ◌*◌, ◌^◌, ◌<◌, ◌≤◌, ◌∷◌, bit_and, slice_index, sym, true, ◌∙◌, ap, ap₂, subst, arith}
use Rattle.std.specs.List.{AllByRecursion}
use Rattle.puz_board.specs.Masks.{IsMaskOf, numbers_of, ones_below}
use Rattle.puz_board.proofs.CellLemmas.{few_cells}
use Rattle.pat_place.specs.Patterns.{has}
use Rattle.pat_place.specs.Placements.{cells_found}
use Rattle.pat_place.proofs.MaskLemmas.{numbers_below-first}
use Rattle.pat_place.proofs.PatternLemmas.{few_tiles}
use Rattle.pat_place.proofs.StandingLemmas.{IsStanding, IsStanding-start, standing_below, standing_fits, standing_inside, standing_more}
use Rattle.pat_place.proofs.StandingLemmas.{standing_occupied, standing_rank}
use Rattle.pat_place.proofs.ranks.standing_of.Goals.{After-cells-count, After-without-rest}
use Rattle.pat_place.proofs.ranks.standing_of.Goals as goal

count_is : (c : After-cells-count) → c.cells-count.result ≡ c.args.pattern.now.side * c.args.pattern.now.side
count_is c = c.cells-count.ensures.value ∙ ap₂ (λ m n. m * n) c.side.ensures.side c.side.ensures.side

few : (c : After-cells-count) → c.cells-count.result ≤ 25
few c = let small = few_cells c.args.pattern.now.side c.side.ensures.pattern.low c.side.ensures.pattern.high in let e = count_is c in omega arith

inside : (c : After-cells-count) → AllByRecursion (λ x. x < c.cells-count.result) (cells_found c.args.pattern.now.tiles c.args.found.now)
inside c = subst (λ k. AllByRecursion (λ x. x < k) (cells_found c.args.pattern.now.tiles c.args.found.now)) (sym (count_is c)) c.requires.inside

-- before a tile is ranked, the whole mask of the pattern is left, and the rank is 0
pub loop-rest-init : goal.loop-rest-init
loop-rest-init c =
    let at = (goal.at.loop-rest-init c).After-cells-count in
    let tiles = c.args.pattern.now.tiles in
    let found = c.args.found.now in
    let count = c.cells-count.result in
    subst (λ free. IsStanding tiles found count c.mask-rest.result free c.from-room.result 0) (sym c.all_below-all.ensures)
    (subst (λ room. IsStanding tiles found count c.mask-rest.result (2 ^ count - 1) room 0) (sym c.from-room.ensures)
    (IsStanding-start tiles found count c.mask-rest.result (few at) (inside at) c.mask-rest.ensures))

-- the tile comes first among those that are left
first : (c : After-without-rest) → numbers_of c.loop-rest.rest ≡ c.first_of-tile.result ∷ numbers_of c.without-rest.result
first c =
    numbers_below-first 32 c.loop-rest.rest c.without-rest.result c.first_of-tile.result c.first_of-tile.ensures.within c.first_of-tile.ensures.here
    c.first_of-tile.ensures.lowest c.without-rest.ensures.here c.without-rest.ensures.others

below : (c : After-without-rest) → slice_index c.args.found.now c.first_of-tile.result < 32
below c =
    standing_below c.args.pattern.now.tiles c.args.found.now c.requires.apart
    (few_tiles c.args.pattern.now c.side.ensures.pattern) c.cells-count.result c.loop-rest.rest
    c.loop-rest.free c.loop-rest.room c.loop-rest.rank c.loop-rest.invariant c.first_of-tile.result c.without-rest.result (first c)

fits : (c : After-without-rest) → (0 < c.loop-rest.room)
    × (c.loop-rest.rank * c.loop-rest.room + ones_below c.loop-rest.free (slice_index c.args.found.now c.first_of-tile.result) < 25 ^ 8)
fits c =
    standing_fits c.args.pattern.now.tiles c.args.found.now c.requires.apart
    (few_tiles c.args.pattern.now c.side.ensures.pattern) c.cells-count.result c.loop-rest.rest
    c.loop-rest.free c.loop-rest.room c.loop-rest.rank c.loop-rest.invariant c.first_of-tile.result c.without-rest.result (first c)

-- the next tile has a place in the array of found cells
pub bounds-found-from : goal.bounds-found-from
bounds-found-from c =
    let at = (goal.at.bounds-found-from c).After-without-rest in
    let pat = c.side.ensures.pattern in
    let tile =
    standing_inside c.args.pattern.now.tiles c.args.found.now c.requires.apart (few_tiles c.args.pattern.now pat) c.cells-count.result c.loop-rest.rest
    c.loop-rest.free c.loop-rest.room c.loop-rest.rank c.loop-rest.invariant c.first_of-tile.result c.without-rest.result (first at)
    (c.args.pattern.now.side * c.args.pattern.now.side) pat.tiles in
    let small = few_cells c.args.pattern.now.side pat.low pat.high in
    let same = c.from.ensures in
    omega arith

-- the rank of the first tiles times the room is a number of 64 bits
pub overflow_mul-rank : goal.overflow_mul-rank
overflow_mul-rank c = let f = (fits (goal.at.overflow_mul-rank c).After-without-rest).1 in omega arith

-- the found cell is below 32 where the free cells below it are counted
pub count_below-requires : goal.count_below-requires
count_below-requires c = subst (λ t. slice_index c.args.found.now t < 32) (sym c.from.ensures) (below (goal.at.count_below-requires c).After-without-rest)

place : (c : After-without-rest) (from at : _) → from ≡ c.first_of-tile.result → at ≡ ones_below c.loop-rest.free (slice_index c.args.found.now from)
    → at ≡ ones_below c.loop-rest.free (slice_index c.args.found.now c.first_of-tile.result)
place c from at same is = is ∙ ap (λ t. ones_below c.loop-rest.free (slice_index c.args.found.now t)) same

-- the rank with the place of the tile's cell is a number of 64 bits
pub overflow_add-rank : goal.overflow_add-rank
overflow_add-rank c =
    let w = (goal.at.overflow_add-rank c).After-without-rest in
    let f = (fits w).1 in
    let e = place w c.from.result c.from-in-loop-rest.result c.from.ensures (c.from-in-loop-rest.ensures ∙ c.count_below.ensures.count) in
    omega arith

-- the found cell is below 32 where it is taken from the free ones
pub without-free-requires : goal.without-free-requires
without-free-requires c = subst (λ t. slice_index c.args.found.now t < 32) (sym c.from.ensures) (below (goal.at.without-free-requires c).After-without-rest)

-- while a tile isn't ranked, the room is at least 1
pub overflow_sub-room : goal.overflow_sub-room
overflow_sub-room c = (fits (goal.at.overflow_sub-room c).After-without-rest).0

-- the next tile's cell is ranked and taken, and its tile is taken from the mask
pub loop-rest-preserved : goal.loop-rest-preserved
loop-rest-preserved c =
    let at = (goal.at.loop-rest-preserved c).After-without-rest in
    let tiles = c.args.pattern.now.tiles in
    let found = c.args.found.now in
    let cell = slice_index found c.from.result in
    let is : ones_below c.loop-rest.free cell ≡ c.from-in-loop-rest.result = sym (c.from-in-loop-rest.ensures ∙ c.count_below.ensures.count) in
    subst (λ place. IsStanding tiles found c.cells-count.result c.without-rest.result c.without-free.result (c.loop-rest.room - 1)
    (c.loop-rest.rank * c.loop-rest.room + place)) is
    (standing_more tiles found c.requires.apart (few_tiles c.args.pattern.now c.side.ensures.pattern) c.cells-count.result c.loop-rest.rest
    c.loop-rest.free c.loop-rest.room c.loop-rest.rank c.loop-rest.invariant c.first_of-tile.result c.without-rest.result (first at)
    cell c.without-free.result (ap (slice_index found) c.from.ensures) c.without-free.type_inv c.without-free.ensures.here c.without-free.ensures.others)

-- once all tiles are ranked, the answer is the rank of the found cells
pub returns-clause-rank : goal.returns-clause-rank
returns-clause-rank c =
    let at = (goal.at.returns-clause-rank c).After-cells-count in
    let tiles = c.args.pattern.now.tiles in
    let found = c.args.found.now in
    standing_rank c.args.pattern.now.side tiles found c.cells-count.result c.loop-rest.free c.loop-rest.room c.loop-rest.rank (count_is at) (inside at)
    (subst (λ rest. IsStanding tiles found c.cells-count.result rest c.loop-rest.free c.loop-rest.room c.loop-rest.rank) c.loop-rest-test.false
    c.loop-rest.invariant)

-- once all tiles are ranked, the cells taken from the free ones are the found ones
pub returns-clause-occupied : goal.returns-clause-occupied
returns-clause-occupied c =
    let at = (goal.at.returns-clause-occupied c).After-cells-count in
    let tiles = c.args.pattern.now.tiles in
    let found = c.args.found.now in
    subst (λ all. IsMaskOf (bit_and all (2 ^ 32 - 1 - c.loop-rest.free)) (λ x. has (cells_found tiles found) x ≡ true)) (sym c.all_below-all.ensures)
    (standing_occupied c.args.pattern.now.side tiles found c.cells-count.result c.loop-rest.free c.loop-rest.room c.loop-rest.rank (count_is at) (inside at)
    (subst (λ rest. IsStanding tiles found c.cells-count.result rest c.loop-rest.free c.loop-rest.room c.loop-rest.rank) c.loop-rest-test.false
    c.loop-rest.invariant))
