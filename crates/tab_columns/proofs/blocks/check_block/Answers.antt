use Rattle.std.proofs.Common.{◌∙◌, ap, drop, take}
use Rattle.tab_columns.proofs.DescribedLemmas.{block_keeps, block_least_bad}
use Rattle.tab_columns.proofs.blocks.check_block.Goals as goal

-- the place of the first breach, behind the entries before the block, is the block's least bad entry
pub returns-in-Some : goal.returns-in-Some
returns-in-Some c = block_least_bad c.columns_of-columns.ensures
    (c.part-entries.ensures ∙ ap (λ xs. take c.columns_of-columns.result.len (drop c.columns_of-columns.result.begin xs)) c.entries.ensures.entries)
    c.part-least.ensures c.part-kinds.ensures c.in-Some.place c.in-Some.ensures

-- where no breach is found, the block keeps the rule
pub returns-in-None : goal.returns-in-None
returns-in-None c = block_keeps c.columns_of-columns.ensures
    (c.part-entries.ensures ∙ ap (λ xs. take c.columns_of-columns.result.len (drop c.columns_of-columns.result.begin xs)) c.entries.ensures.entries)
    c.part-least.ensures c.part-kinds.ensures c.in-None.ensures
