use Rattle.pdb_checker.proofs.TableLemmas.{least_of_first, one_more}
use Rattle.pdb_checker.proofs.tables.first_bad.Goals as goal

-- the blocks before keep the rule, so the least bad entry of this one is that of the table
pub returns-in-Some : goal.returns-in-Some
returns-in-Some c = least_of_first c.args.table.now c.loop-block.block c.in-Some.number c.loop-block.invariant.kept c.in-Some.ensures

-- a block that keeps the rule is one more
pub loop-block-preserved : goal.loop-block-preserved
loop-block-preserved c = record {
  kept = one_more c.args.table.now c.loop-block.block c.loop-block.invariant.kept c.in_default.ensures;
}
