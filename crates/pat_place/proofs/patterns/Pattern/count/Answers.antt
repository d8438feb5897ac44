use Rattle.std.proofs.Common.{◌≡◌, suc, ◌+◌, ◌-◌, ◌*◌, ◌^◌, ◌<◌, length, sym, ◌∙◌, ap, ap₂, subst, arith}
use Rattle.pat_place.specs.Patterns.{width}
use Rattle.pat_place.specs.Ranks.{falling_factorial}
use Rattle.pat_place.proofs.CountLemmas.{few_slots, few_placements}
use Rattle.pat_place.proofs.RankLemmas.{falling_more, falling_step_fits, count_of_placements}
use Rattle.puz_board.proofs.CellLemmas.{few_cells}
use Rattle.pat_place.proofs.patterns.Pattern.count.Goals as goal

-- the product with one factor more is a number of 64 bits
pub overflow_mul-count : goal.overflow_mul-count
overflow_mul-count c =
    let few = few_cells c.self.inside.side c.cells.ensures.low c.cells.ensures.high in
    let fits = falling_step_fits c.loop-placed.count c.from-cells.result c.loop-placed.placed c.loop-placed.invariant.0 (omega arith) (omega arith) in
    omega arith

-- the product so far times the next factor is the falling product with one factor more
pub loop-placed-preserved : goal.loop-placed-preserved
loop-placed-preserved c = (
  ap (λ x. x * (c.from-cells.result - c.loop-placed.placed)) c.loop-placed.invariant.0 ∙
      sym (falling_more c.from-cells.result c.loop-placed.placed) ∙
      ap (falling_factorial c.from-cells.result) (let e : suc c.loop-placed.placed ≡ c.loop-placed.placed + 1 = omega arith in e),
  c.loop-placed.invariant.1,
)

-- the product of all factors is n² · (n² - 1) · .. for as many factors as tiles
pub returns-clause-product : goal.returns-clause-product
returns-clause-product c =
    let side : c.self.inside.side ≡ c.args.self.now.side = ap (λ p. p.side) c.self.view_is in
    let cells : c.from-cells.result ≡ c.args.self.now.side * c.args.self.now.side = c.from-cells.ensures ∙ c.cells.ensures.value
    ∙ ap₂ (λ m n. m * n) side side in
    let placed : c.loop-placed.placed ≡ length c.args.self.now.tiles = omega arith in
    c.loop-placed.invariant.0 ∙
    ap₂ falling_factorial cells placed

-- the product of all factors is the number of the pattern's placements
pub returns-clause-count : goal.returns-clause-count
returns-clause-count c = returns-clause-product c ∙ sym (count_of_placements c.args.self.now.side (length c.args.self.now.tiles))

-- the placements times the slots of each are fewer than 2^32
pub returns-clause-small : goal.returns-clause-small
returns-clause-small c = subst (λ k. k * width c.args.self.now.side (length c.args.self.now.tiles) < 2 ^ 32) (sym (returns-clause-count c))
    (few_slots c.args.self.now c.size.ensures.pattern)

-- the number of placements is below 2^32
pub returns-clause-fits : goal.returns-clause-fits
returns-clause-fits c = subst (λ k. k < 2 ^ 32) (sym (returns-clause-count c)) (few_placements c.args.self.now c.size.ensures.pattern)
