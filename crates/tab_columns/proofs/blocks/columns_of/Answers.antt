use Rattle.std.proofs.Common.{take, ◌∙◌, arith, rules}
use Rattle.tab_rule.proofs.BlockLemmas.{first_fits}
use Rattle.tab_columns.proofs.PartLemmas.{block_is, columns_are}
use Rattle.tab_columns.proofs.blocks.columns_of.Goals as goal

-- the number of a block's first entry is small
pub overflow_mul-first : goal.overflow_mul-first
overflow_mul-first c =
    let fits = first_fits c.args.table.now.pattern c.pattern-pattern.ensures.table.pattern c.args.block c.requires in
    omega arith

-- the placements of the block are those of the pattern
pub masks_of-masks-requires-clause-placements : goal.masks_of-masks-requires-clause-placements
masks_of-masks-requires-clause-placements c row v get = let has = c.placements_from-all.ensures row v get in (has.0 ∙ c.pattern-pattern.ensures.pattern, has.1)

-- the masks are those of the regions of the placements
pub least_near-least-requires : goal.least_near-least-requires
least_near-least-requires c = record {
  table = c.pattern-pattern.ensures.table;
  few = (let most = c.min-count.ensures in first_of (omega arith, search rules));
  placements = λ row v get. let has = c.placements_from-all.ensures row v get in (has.0 ∙ c.pattern-pattern.ensures.pattern, has.1);
  regions = c.masks_of-masks.ensures;
}

-- what is answered are the columns of the block
pub returns : goal.returns
returns c =
    let is = block_is c.pattern-pattern.ensures.table c.requires c.pattern-pattern.ensures.pattern c.count.ensures.count c.min-count.ensures
    (c.from-width.ensures ∙ c.width.ensures) in
    columns_are (take c.min-count.result c.placements_from-all.result) c.masks_of-masks.result c.kinds_of-kinds.result c.least_near-least.result is
    c.pattern-pattern.ensures.pattern c.placements_from-all.ensures
    (first_of (omega arith, search rules)) c.goal_number.ensures c.kinds_of-kinds.ensures.len c.least_near-least.ensures.len
    c.masks_of-masks.ensures c.least_near-least.ensures.each c.kinds_of-kinds.ensures.each
