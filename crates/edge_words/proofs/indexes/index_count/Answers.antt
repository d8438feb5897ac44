use Rattle.std.proofs.Common.{◌≡◌, ◌*◌, ◌^◌, ◌≤◌, suc, length, ◌∙◌, ap, arith}
use Rattle.std.proofs.Math.Nat.{pow-suc, pow-le-pow_right}
use Rattle.std.proofs.lemmas.Nat.{mul-le}
use Rattle.edge_words.specs.Indexes.{index_count}
use Rattle.edge_words.proofs.indexes.index_count.Goals as goal

-- where a power of the cell count is more than the most words, the count of indexes is so too
pub returns-then-count-gt-MOST_WORDS-clause-many : goal.returns-then-count-gt-MOST_WORDS-clause-many
returns-then-count-gt-MOST_WORDS-clause-many c =
    let p = c.args.pattern.now in
    let base = c.from-cells.result in
    let base_is : base ≡ p.side * p.side = c.from-cells.ensures ∙ c.cells.ensures.value ∙ ap (λ n. n * n) c.side.ensures.side in
    let low : 2 ≤ p.side = c.side.ensures.pattern.low in
    let square : 2 * 2 ≤ p.side * p.side = mul-le 2 2 p.side p.side low low in
    let some : 1 ≤ base = omega arith in
    let more = c.loop-test.true in
    let end = c.loop.auto.counter-end in
    let size = c.size-end.ensures.size in
    let within : suc c.loop.counter ≤ length p.tiles = omega arith in
    let power : base ^ suc c.loop.counter ≤ base ^ length p.tiles = pow-le-pow_right some within in
    let next : base ^ suc c.loop.counter ≡ base ^ c.loop.counter * base = pow-suc base c.loop.counter in
    let whole : base ^ length p.tiles ≡ index_count p = ap (λ k. k ^ length p.tiles) base_is in
    let here : c.loop.count * base ≡ base ^ c.loop.counter * base = ap (λ k. k * base) c.loop.invariant.power in
    let many = c.if-count-gt-MOST_WORDS.true in
    omega arith
