use Rattle.std.proofs.Common.{◌≡◌, ◌+◌, ◌-◌, ◌≤◌, ◌∷◌, ◌++◌, length, take, drop, get_or, set, replicate, Some, refl, sym, ◌∙◌, ap, subst, arith}
use Rattle.std.specs.Prelude.{count_ones, slice_get}
use borrow.Rule.Slice.PartMut.{put_mid}
use Rattle.puz_board.specs.Masks.{numbers_of}
use Rattle.pat_place.specs.Placements.{IsPlacement}
use Rattle.pat_place.specs.Ranks.{IsRank, lists_of}
use Rattle.pat_place.proofs.PlacementLemmas.{placed}
use Rattle.pat_place.proofs.NextLemmas.{IsLifted-start, lifted-cell, lifted-more, lifted-room, lifted-next, length-first, IsRank-next}
use Rattle.pat_place.proofs.NextLemmas.{IsPlacement-next, IsRank-last, stored-cell, length-behind, take-advanced, drop-advanced}
use Rattle.pat_place.proofs.ranks.next.Goals as goal

-- the cell above which a greater one is sought is small enough for that
pub above-greater-requires : goal.above-greater-requires
above-greater-requires c =
    let size : c.from-size.result ≡ length c.args.placement.now.pattern.tiles = c.from-size.ensures ∙ c.size.ensures.size
    ∙ ap (λ q. length q.tiles) c.pattern-pattern.ensures.pattern in
    let few : c.from-size.result ≤ 8 = (let e = c.from-size.ensures in let f = c.size.ensures.few in omega arith) in
    let cell = stored-cell c.args.placement.now c.pattern-pattern.ensures.placement c.loop-index.index c.from-size.result c.loop-index-test.true
    c.loop-index.invariant.within size c.padded-cells.result c.loop-index.cells c.loop-index.invariant.same_cells c.padded-cells.ensures.len few
    c.padded-cells.ensures.cells in
    let below = lifted-cell c.args.placement.now c.pattern-pattern.ensures.is_pattern c.pattern-pattern.ensures.placement c.loop-index.index
    c.loop-index.free c.loop-index.invariant.lifted c.loop-index-test.true (get_or c.loop-index.cells (c.loop-index.index - 1) 0) cell in
    omega arith

-- before a tile is lifted, the free cells are the placement's, and nothing is changed
pub loop-index-init : goal.loop-index-init
loop-index-init c =
    let size : c.from-size.result ≡ length c.args.placement.now.pattern.tiles = c.from-size.ensures ∙ c.size.ensures.size
    ∙ ap (λ q. length q.tiles) c.pattern-pattern.ensures.pattern in
    let few : c.from-size.result ≤ 8 = (let e = c.from-size.ensures in let f = c.size.ensures.few in omega arith) in
    record {
      lifted = IsLifted-start c.args.placement.now.pattern.side c.args.placement.now.cells c.from-size.result c.free_cells-free.result
          (size ∙ sym c.pattern-pattern.ensures.placement.size) c.free_cells-free.type_inv c.free_cells-free.ensures.free;
      within = omega arith;
      same = refl;
      same_cells = refl;
    }

-- there are enough free cells for the lifted tiles once the greater cell is taken
pub fill-requires : goal.fill-requires
fill-requires c =
    let size : c.from-size.result ≡ length c.args.placement.now.pattern.tiles = c.from-size.ensures ∙ c.size.ensures.size
    ∙ ap (λ q. length q.tiles) c.pattern-pattern.ensures.pattern in
    let few : c.from-size.result ≤ 8 = (let e = c.from-size.ensures in let f = c.size.ensures.few in omega arith) in
    let cell = stored-cell c.args.placement.now c.pattern-pattern.ensures.placement c.loop-index.index c.from-size.result c.loop-index-test.true
    c.loop-index.invariant.within size c.padded-cells.result c.loop-index.cells c.loop-index.invariant.same_cells c.padded-cells.ensures.len few
    c.padded-cells.ensures.cells in
    subst (λ k. k ≤ count_ones c.without.result) (sym
    (length-behind c.args.placement.now c.pattern-pattern.ensures.placement c.loop-index.index c.from-size.result c.loop-index-test.true
    c.loop-index.invariant.within size c.padded-cells.result c.loop-index.cells c.loop-index.invariant.same_cells c.padded-cells.ensures.len few
    c.padded-cells.ensures.cells c.first_of-target.result)) (
    lifted-room c.args.placement.now c.pattern-pattern.ensures.is_pattern c.pattern-pattern.ensures.placement c.loop-index.index c.loop-index.free
    c.loop-index.invariant.lifted c.loop-index-test.true (get_or c.loop-index.cells (c.loop-index.index - 1) 0)
    c.with-free.result c.above-greater.result cell c.with-free.type_inv c.with-free.ensures.here c.with-free.ensures.others c.above-greater.ensures.above
    c.above-greater.ensures.upto c.first_of-target.result c.first_of-target.ensures.here c.first_of-target.ensures.lowest c.without.result
    c.without.ensures.here c.without.ensures.others c.without.type_inv)

-- the first cells, the greater one and the filled ones behind it are a placement
pub with_cells-requires-clause-placement : goal.with_cells-requires-clause-placement
with_cells-requires-clause-placement c =
    let size : c.from-size.result ≡ length c.args.placement.now.pattern.tiles = c.from-size.ensures ∙ c.size.ensures.size
    ∙ ap (λ q. length q.tiles) c.pattern-pattern.ensures.pattern in
    let few : c.from-size.result ≤ 8 = (let e = c.from-size.ensures in let f = c.size.ensures.few in omega arith) in
    let cell = stored-cell c.args.placement.now c.pattern-pattern.ensures.placement c.loop-index.index c.from-size.result c.loop-index-test.true
    c.loop-index.invariant.within size c.padded-cells.result c.loop-index.cells c.loop-index.invariant.same_cells c.padded-cells.ensures.len few
    c.padded-cells.ensures.cells in
    let first = subst (λ k. slice_get (lists_of k (numbers_of c.without.result)) 0 ≡ Some c.fill.new.cells)
    (length-behind c.args.placement.now c.pattern-pattern.ensures.placement c.loop-index.index c.from-size.result c.loop-index-test.true
    c.loop-index.invariant.within size c.padded-cells.result c.loop-index.cells c.loop-index.invariant.same_cells c.padded-cells.ensures.len few
    c.padded-cells.ensures.cells c.first_of-target.result) c.fill.ensures in
    let rest = length-first (length c.args.placement.now.cells - c.loop-index.index) (numbers_of c.without.result) c.fill.new.cells first in
    let next = lifted-next c.args.placement.now c.pattern-pattern.ensures.is_pattern c.pattern-pattern.ensures.placement c.loop-index.index
    c.loop-index.free c.loop-index.invariant.lifted c.loop-index-test.true (get_or c.loop-index.cells (c.loop-index.index - 1) 0)
    c.with-free.result c.above-greater.result cell c.with-free.type_inv c.with-free.ensures.here c.with-free.ensures.others c.above-greater.ensures.above
    c.above-greater.ensures.upto c.first_of-target.result c.first_of-target.ensures.here c.first_of-target.ensures.lowest c.without.result
    c.without.ensures.here c.without.ensures.others c.fill.new.cells first in
    subst (λ pattern. IsPlacement (placed pattern (take (length pattern.tiles)
    (put_mid (c.loop-index.index - 1 + 1) (c.from-size.result - (c.loop-index.index - 1 + 1))
    (set c.loop-index.cells (c.loop-index.index - 1) c.first_of-target.result) c.fill.new.cells)))) (sym c.pattern-pattern.ensures.pattern) (
    subst (λ xs. IsPlacement (placed c.args.placement.now.pattern xs))
    (sym (take-advanced c.args.placement.now c.pattern-pattern.ensures.placement c.loop-index.index c.from-size.result c.loop-index-test.true
    c.loop-index.invariant.within size c.padded-cells.result c.loop-index.cells c.loop-index.invariant.same_cells c.padded-cells.ensures.len few
    c.padded-cells.ensures.cells c.first_of-target.result c.fill.new.cells rest)) (
    IsPlacement-next c.args.placement.now c.pattern-pattern.ensures.placement
    (take (c.loop-index.index - 1) c.args.placement.now.cells ++ c.first_of-target.result ∷ c.fill.new.cells) next))

-- behind the cells of the tiles the changed array has zeros still
pub with_cells-requires-clause-rest : goal.with_cells-requires-clause-rest
with_cells-requires-clause-rest c =
    let size : c.from-size.result ≡ length c.args.placement.now.pattern.tiles = c.from-size.ensures ∙ c.size.ensures.size
    ∙ ap (λ q. length q.tiles) c.pattern-pattern.ensures.pattern in
    let few : c.from-size.result ≤ 8 = (let e = c.from-size.ensures in let f = c.size.ensures.few in omega arith) in
    let cell = stored-cell c.args.placement.now c.pattern-pattern.ensures.placement c.loop-index.index c.from-size.result c.loop-index-test.true
    c.loop-index.invariant.within size c.padded-cells.result c.loop-index.cells c.loop-index.invariant.same_cells c.padded-cells.ensures.len few
    c.padded-cells.ensures.cells in
    let first = subst (λ k. slice_get (lists_of k (numbers_of c.without.result)) 0 ≡ Some c.fill.new.cells)
    (length-behind c.args.placement.now c.pattern-pattern.ensures.placement c.loop-index.index c.from-size.result c.loop-index-test.true
    c.loop-index.invariant.within size c.padded-cells.result c.loop-index.cells c.loop-index.invariant.same_cells c.padded-cells.ensures.len few
    c.padded-cells.ensures.cells c.first_of-target.result) c.fill.ensures in
    let rest = length-first (length c.args.placement.now.cells - c.loop-index.index) (numbers_of c.without.result) c.fill.new.cells first in
    subst (λ pattern. drop (length pattern.tiles) (put_mid (c.loop-index.index - 1 + 1) (c.from-size.result - (c.loop-index.index - 1 + 1))
    (set c.loop-index.cells (c.loop-index.index - 1) c.first_of-target.result) c.fill.new.cells) ≡ replicate (8 - length pattern.tiles) 0)
    (sym c.pattern-pattern.ensures.pattern) (
    drop-advanced c.args.placement.now c.pattern-pattern.ensures.placement c.loop-index.index c.from-size.result c.loop-index-test.true
    c.loop-index.invariant.within size c.padded-cells.result c.loop-index.cells c.loop-index.invariant.same_cells c.padded-cells.ensures.len few
    c.padded-cells.ensures.cells c.first_of-target.result c.fill.new.cells rest ∙ c.padded-cells.ensures.rest)

-- where a tile has a greater free cell to go to, the new placement has the next rank
pub returns-then-greater-ne0-clause-step : goal.returns-then-greater-ne0-clause-step
returns-then-greater-ne0-clause-step c r is =
    let size : c.from-size.result ≡ length c.args.placement.now.pattern.tiles = c.from-size.ensures ∙ c.size.ensures.size
    ∙ ap (λ q. length q.tiles) c.pattern-pattern.ensures.pattern in
    let few : c.from-size.result ≤ 8 = (let e = c.from-size.ensures in let f = c.size.ensures.few in omega arith) in
    let cell = stored-cell c.args.placement.now c.pattern-pattern.ensures.placement c.loop-index.index c.from-size.result c.loop-index-test.true
    c.loop-index.invariant.within size c.padded-cells.result c.loop-index.cells c.loop-index.invariant.same_cells c.padded-cells.ensures.len few
    c.padded-cells.ensures.cells in
    let first = subst (λ k. slice_get (lists_of k (numbers_of c.without.result)) 0 ≡ Some c.fill.new.cells)
    (length-behind c.args.placement.now c.pattern-pattern.ensures.placement c.loop-index.index c.from-size.result c.loop-index-test.true
    c.loop-index.invariant.within size c.padded-cells.result c.loop-index.cells c.loop-index.invariant.same_cells c.padded-cells.ensures.len few
    c.padded-cells.ensures.cells c.first_of-target.result) c.fill.ensures in
    let rest = length-first (length c.args.placement.now.cells - c.loop-index.index) (numbers_of c.without.result) c.fill.new.cells first in
    let next = lifted-next c.args.placement.now c.pattern-pattern.ensures.is_pattern c.pattern-pattern.ensures.placement c.loop-index.index
    c.loop-index.free c.loop-index.invariant.lifted c.loop-index-test.true (get_or c.loop-index.cells (c.loop-index.index - 1) 0)
    c.with-free.result c.above-greater.result cell c.with-free.type_inv c.with-free.ensures.here c.with-free.ensures.others c.above-greater.ensures.above
    c.above-greater.ensures.upto c.first_of-target.result c.first_of-target.ensures.here c.first_of-target.ensures.lowest c.without.result
    c.without.ensures.here c.without.ensures.others c.fill.new.cells first in
    let cells = ap (λ p. p.cells) c.with_cells.ensures
    ∙ ap (λ pattern. take (length pattern.tiles) (put_mid (c.loop-index.index - 1 + 1) (c.from-size.result - (c.loop-index.index - 1 + 1))
    (set c.loop-index.cells (c.loop-index.index - 1) c.first_of-target.result) c.fill.new.cells)) c.pattern-pattern.ensures.pattern
    ∙ take-advanced c.args.placement.now c.pattern-pattern.ensures.placement c.loop-index.index c.from-size.result c.loop-index-test.true
    c.loop-index.invariant.within size c.padded-cells.result c.loop-index.cells c.loop-index.invariant.same_cells c.padded-cells.ensures.len few
    c.padded-cells.ensures.cells c.first_of-target.result c.fill.new.cells rest in
    subst (λ xs. IsRank c.args.placement.now.pattern.side xs (r + 1)) (sym cells)
    (IsRank-next c.args.placement.now (take (c.loop-index.index - 1) c.args.placement.now.cells ++ c.first_of-target.result ∷ c.fill.new.cells) next r is)

-- a tile without a greater free cell is lifted, which leaves the placement as it is
pub loop-index-preserved : goal.loop-index-preserved
loop-index-preserved c =
    let size : c.from-size.result ≡ length c.args.placement.now.pattern.tiles = c.from-size.ensures ∙ c.size.ensures.size
    ∙ ap (λ q. length q.tiles) c.pattern-pattern.ensures.pattern in
    let few : c.from-size.result ≤ 8 = (let e = c.from-size.ensures in let f = c.size.ensures.few in omega arith) in
    let cell = stored-cell c.args.placement.now c.pattern-pattern.ensures.placement c.loop-index.index c.from-size.result c.loop-index-test.true
    c.loop-index.invariant.within size c.padded-cells.result c.loop-index.cells c.loop-index.invariant.same_cells c.padded-cells.ensures.len few
    c.padded-cells.ensures.cells in
    record {
      lifted = lifted-more c.args.placement.now c.pattern-pattern.ensures.is_pattern c.pattern-pattern.ensures.placement c.loop-index.index
          c.loop-index.free c.loop-index.invariant.lifted c.loop-index-test.true
          (get_or c.loop-index.cells (c.loop-index.index - 1) 0) c.with-free.result c.above-greater.result cell c.with-free.type_inv
          c.with-free.ensures.here c.with-free.ensures.others c.above-greater.ensures.above c.if-greater-ne0.false;
      within = (let w = c.loop-index.invariant.within in omega arith);
      same = c.loop-index.invariant.same;
      same_cells = c.loop-index.invariant.same_cells;
    }

-- where all tiles are lifted, the placement has the last rank
pub returns-clause-step : goal.returns-clause-step
returns-clause-step c = IsRank-last c.args.placement.now c.loop-index.index c.loop-index.free c.loop-index-test.false c.loop-index.invariant.lifted
