use Rattle.std.proofs.Common.{◌≡◌, ◌≤◌, sym, ◌∙◌, ap, arith, false, true}
use Rattle.tab_rule.specs.Blocks.{block_count}
use Rattle.tab_columns.proofs.LimitLemmas.{below_more, passed_below}
use Rattle.tab_columns.proofs.limits.passes.Goals as goal

-- of no block there is nothing to know
pub loop-block-init : goal.loop-block-init
loop-block-init c = record {
  below = record {
    kept = λ b l. absurd (omega arith);
    some = λ is. absurd (let wrong : false ≡ true = is in cc);
    none = λ b l is. absurd (omega arith);
  };
}

-- a block that breaks the rule shows no count
pub returns-in-None : goal.returns-in-None
returns-in-None c = (λ is. absurd (let wrong : false ≡ true = is in cc), λ passed. absurd (c.in-None.ensures (λ number inside. passed.keeps number)))

-- a block that keeps the rule is one more of those that are known
pub loop-block-preserved : goal.loop-block-preserved
loop-block-preserved c = record {
  below = below_more c.args.most c.args.table.now c.loop-block.block c.loop-block.is_passed c.in-Some.has_past
      c.loop-block.invariant.below c.in-Some.ensures;
}

-- once all blocks are known, it is known of the table
pub returns : goal.returns
returns c =
    let all : block_count c.args.table.now.pattern ≡ c.block_count-block-end.result = ap block_count (sym c.pattern.ensures.pattern)
    ∙ sym c.block_count-block-end.ensures in
    let past : c.block_count-block-end.result ≤ c.loop-block.block = c.loop-block-test.false in
    passed_below c.args.most c.args.table.now c.loop-block.block c.loop-block.is_passed c.loop-block.invariant.below (omega arith)
