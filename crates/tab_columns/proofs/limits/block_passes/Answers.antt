use Rattle.std.proofs.Common.{◌<◌, ◌≤◌, arith}
use Rattle.tab_columns.proofs.DescribedLemmas.{block_breaks, block_told}
use Rattle.tab_columns.proofs.limits.block_passes.Goals as goal

-- at an entry that breaks the rule up to the count, the block breaks it
pub returns-then-not-keeps_up_to : goal.returns-then-not-keeps_up_to
returns-then-not-keeps_up_to c =
    let both = c.if-not-keeps_up_to.ensures in
    block_breaks c.columns_of-columns.ensures c.args.most c.entries-entries.ensures.entries c.loop-i.i c.loop-i-test.true
    (λ keeps. let wrong = both.1 keeps in cc)

-- once all entries are looked at, the block keeps the rule, and it is known whether one is past the count
pub returns : goal.returns
returns c =
    let was = c.loop-i.invariant in
    let from : c.columns_of-columns.result.len ≤ c.loop-i.i = c.loop-i-test.false in
    let to : c.loop-i.i ≤ c.columns_of-columns.result.len = c.loop-i.auto.i-end in
    block_told c.columns_of-columns.ensures c.args.most c.entries-entries.ensures.entries c.loop-i.has_past
    (λ i l. was.kept i (omega arith))
    (λ is. let at = was.some is in let low : at.0 < c.loop-i.i = at.1 in (at.0, omega arith, at.2))
    (λ i l is. was.none i (omega arith) is)
