use Rattle.tab_columns.proofs.LimitLemmas.{AreBelow}
use Rattle.tab_columns.proofs.limits.passes.Given as goal

-- the blocks so far keep the rule up to the count, and it is known whether one is past it
abbrev pub invariant-loop-block : goal.invariant-loop-block
invariant-loop-block l = record {
  below : AreBelow l.most l.table l.block l.is_passed;
}
