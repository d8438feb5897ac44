use Rattle.std.proofs.Common.{refl}
use Rattle.std.proofs.lemmas.Bool.{both_ways}
use Rattle.set_sum.specs.OverPatterns.{tables_with}
use Rattle.set_sum.proofs.ListLemmas.{no_member}
use Rattle.set_sum.proofs.TwiceLemmas.{twice_here, twice_none}
use Rattle.set_sum.proofs.patterns.twice.Goals as goal

-- a member that meets one before it names its pattern twice in the set
pub returns-then-meets : goal.returns-then-meets
returns-then-meets c = (λ _. twice_here (tables_with c.args.patterns.now) c.args.set.now c.loop-i.i no_member c.loop-i-test.true (c.meets.ensures.0 c.if-meets.true), λ _. refl)

-- a member that meets none before it leaves the members so far without a pattern twice
pub loop-i-preserved : goal.loop-i-preserved
loop-i-preserved c = twice_none (tables_with c.args.patterns.now) c.args.set.now c.loop-i.i no_member c.loop-i-test.true c.loop-i.invariant
    (λ any. both_ways c.meets.result c.if-meets.false (c.meets.ensures.1 any))
