use Rattle.std.proofs.Common.{◌≡◌, ◌+◌, ◌-◌, ◌*◌, ◌/◌, ◌%◌, ◌^◌, ◌<◌, ◌≤◌, ◌∷◌, suc, length, drop, sym, ◌∙◌, ap, ap₂, subst, arith, length-drop, length-set}
use Rattle.std.specs.Prelude.{slice_set}
use Rattle.std.specs.List.{AllByRecursion}
use Rattle.std.proofs.lemmas.List.{length-take-le}
use Rattle.std.proofs.lemmas.Nat.{div-add-mod', div_below, mod_below, mul-le}
use Rattle.std.proofs.Math.Nat.{pow-suc}
use Rattle.std.proofs.Math.Seq.{take-set-lt}
use native.Mathlib.Nat.{pow-zero}
use Rattle.edge_words.specs.Indexes.{index_of}
use Rattle.edge_words.specs.Lookups.{but_last}
use Rattle.edge_words.proofs.FillLemmas.{drop_set}
use Rattle.edge_words.proofs.fills.cells_at.Goals as goal

-- with one more cell taken from what is left of the index, the cells from there on and the rest still make the index
pub loop-tile-preserved : goal.loop-tile-preserved
loop-tile-preserved c =
    let p = c.args.pattern.now in
    let base = c.from-count.result in
    let low : 2 ≤ p.side = c.side.ensures.pattern.low in
    let square : 2 * 2 ≤ p.side * p.side = mul-le 2 2 p.side p.side low low in
    let base_is : base ≡ p.side * p.side = c.from-count.ensures ∙ c.cells.ensures.value ∙ ap (λ n. n * n) c.side.ensures.side in
    let some : 0 < base = omega arith in
    let digit = c.last_digit.result in
    let digit_is : digit ≡ c.loop-tile.rest % base = c.last_digit.ensures in
    let more_rest = c.without_digit-rest.result in
    let more_is : more_rest ≡ c.loop-tile.rest / base = c.without_digit-rest.ensures in
    let tile = c.loop-tile.tile in
    let rest = c.loop-tile.rest in
    let cells = c.loop-tile.cells in
    let m = length p.tiles - 1 in
    let more = c.loop-tile-test.true in
    let few = c.size.ensures.few in
    let room = c.loop-tile.invariant.room in
    let within = c.loop-tile.invariant.within in
    let here : suc (tile - 1) ≡ tile = omega arith in
    let all : length (but_last p cells) ≡ m = length-take-le m cells (omega arith) in
    let later = drop tile (but_last p cells) in
    let long : length later ≡ m - tile = (let d = length-drop tile (but_last p cells) in omega arith) in
    let next : drop (tile - 1) (but_last p (slice_set cells (tile - 1) digit)) ≡ digit ∷ later =
    ap (drop (tile - 1)) (take-set-lt m cells (tile - 1) digit (omega arith)) ∙
    drop_set (tile - 1) (but_last p cells) digit (omega arith) ∙
    ap (λ k. digit ∷ drop k (but_last p cells)) here in
    let digit_low : digit < base = subst (λ d. d < base) (sym digit_is) (mod_below rest base some) in
    let before = c.loop-tile.invariant.digits in
    record {
      room = length-set cells (tile - 1) digit ∙ room;
      within = omega arith;
      digits =
          (let grown : index_of base (drop (tile - 1) (but_last p (slice_set cells (tile - 1) digit))) ≡ digit * base ^ (m - tile)
          + index_of base later = ap (index_of base) next ∙ ap (λ k. digit * base ^ k + index_of base later) long in
          let power : base ^ (m - (tile - 1)) ≡ base ^ (m - tile) * base =
          ap (λ k. base ^ k) (let e : m - (tile - 1) ≡ suc (m - tile) = omega arith in e) ∙ pow-suc base (m - tile) in
          let shifted : more_rest * base ^ (m - (tile - 1)) ≡ more_rest * (base ^ (m - tile) * base) = ap (λ k. more_rest * k) power in
          let turned : more_rest * (base ^ (m - tile) * base) ≡ more_rest * base * base ^ (m - tile) = omega arith in
          let split : (more_rest * base + digit) * base ^ (m - tile) ≡ rest * base ^ (m - tile) =
          ap (λ k. k * base ^ (m - tile)) (ap₂ (λ k d. k * base + d) more_is digit_is ∙ div-add-mod' rest base) in
          let spread : (more_rest * base + digit) * base ^ (m - tile) ≡ more_rest * base * base ^ (m - tile) + digit * base
          ^ (m - tile) = omega arith in
          omega arith);
      inside = subst (AllByRecursion (λ x. x < base)) (sym next) (digit_low, c.loop-tile.invariant.inside);
      low =
          (let step : base ^ tile ≡ base ^ (tile - 1) * base = ap (λ k. base ^ k) (sym here) ∙ pow-suc base (tile - 1) in
          subst (λ k. k < base ^ (tile - 1)) (sym more_is)
          (div_below rest base (base ^ (tile - 1)) some (subst (λ k. rest < k) step c.loop-tile.invariant.low)));
    }

-- the cells that were taken digit by digit have the index
pub returns-clause-index : goal.returns-clause-index
returns-clause-index c =
    let p = c.args.pattern.now in
    let base = c.from-count.result in
    let base_is : base ≡ p.side * p.side = c.from-count.ensures ∙ c.cells.ensures.value ∙ ap (λ n. n * n) c.side.ensures.side in
    let tile = c.loop-tile.tile in
    let done = c.loop-tile-test.false in
    let none : tile ≡ 0 = omega arith in
    let low : c.loop-tile.rest < 1 = subst (λ k. c.loop-tile.rest < k) (ap (λ k. base ^ k) none ∙ pow-zero base) c.loop-tile.invariant.low in
    let gone : c.loop-tile.rest * base ^ (length p.tiles - 1 - tile) ≡ 0 * base ^ (length p.tiles - 1 - tile) =
    ap (λ k. k * base ^ (length p.tiles - 1 - tile)) (let e : c.loop-tile.rest ≡ 0 = omega arith in e) in
    let digits = c.loop-tile.invariant.digits in
    let index : index_of base (drop tile (but_last p c.loop-tile.cells)) ≡ c.args.index = omega arith in
    sym (ap (λ b. index_of b (but_last p c.loop-tile.cells)) base_is) ∙ sym (ap (λ k. index_of base (drop k (but_last p c.loop-tile.cells))) none) ∙ index

-- the cells that were taken digit by digit are all cells of the board
pub returns-clause-inside : goal.returns-clause-inside
returns-clause-inside c =
    let p = c.args.pattern.now in
    let base = c.from-count.result in
    let base_is : base ≡ p.side * p.side = c.from-count.ensures ∙ c.cells.ensures.value ∙ ap (λ n. n * n) c.side.ensures.side in
    let done = c.loop-tile-test.false in
    let none : c.loop-tile.tile ≡ 0 = omega arith in
    subst (λ b. AllByRecursion (λ x. x < b) (but_last p c.loop-tile.cells)) base_is
    (subst (λ k. AllByRecursion (λ x. x < base) (drop k (but_last p c.loop-tile.cells))) none c.loop-tile.invariant.inside)
