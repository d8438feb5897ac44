use Rattle.std.proofs.Common.{◌≡◌, ◌+◌, ◌&&◌, Bool, ap, arith, false, filter, get_or, length, not, ℕ}
use Rattle.std.specs.List.{range_with_len}
use Rattle.pdb_parts.proofs.MarkLemmas.{count_more, one_at_most}
use Rattle.pdb_parts.proofs.joining.count_spent.Goals as goal

-- a part without the first mark is counted where it has the second
pub loop-index-preserved : goal.loop-index-preserved
loop-index-preserved c =
    let holds = c.args.holds.now in
    let spent = c.args.spent.now in
    let index = c.loop-index.index in
    let passes : ℕ → Bool = λ i. not (get_or holds i false) && get_or spent i false in
    let more = count_more passes index (get_or spent index false) (ap (λ b. not b && get_or spent index false) c.if-holds-index.false) in
    record {
      counted = omega (arith, c.loop-index.invariant.counted, more, c.from-count.ensures);
      few = omega (arith, c.loop-index.invariant.few, c.from-count.ensures, one_at_most (get_or spent index false));
    }

-- and a part with the first one is not
pub loop-index-preserved-then-holds-index : goal.loop-index-preserved-then-holds-index
loop-index-preserved-then-holds-index c =
    let holds = c.args.holds.now in
    let spent = c.args.spent.now in
    let index = c.loop-index.index in
    let passes : ℕ → Bool = λ i. not (get_or holds i false) && get_or spent i false in
    let more : length (filter passes (range_with_len 0 (index + 1))) ≡ length (filter passes (range_with_len 0 index)) + 0 =
    count_more passes index false (ap (λ b. not b && get_or spent index false) c.if-holds-index.true) in
    record { counted = omega (arith, c.loop-index.invariant.counted, more); few = omega (arith, c.loop-index.invariant.few) }
