use Rattle.tab_rule.proofs.TableLemmas.{exact_from_keeps, keeps_by_blocks}
use Rattle.tab_rule.proofs.tables.CheckedTable.of_view.Goals as goal

-- a table of which each block keeps the rule is stored as an exact one, with no slots kept
pub invariant_of-result : goal.invariant_of-result
invariant_of-result c =
    let t = c.args.view in
    let is = c.pattern-pattern.ensures.table in
    record { exact = record { is_table = is; exact = exact_from_keeps t is (keeps_by_blocks t c.requires) }; slots = tt }

-- a table of which each block keeps the rule is exact
pub returns-clause-exact : goal.returns-clause-exact
returns-clause-exact c =
    let t = c.args.view in
    let is = c.pattern-pattern.ensures.table in
    record { is_table = is; exact = exact_from_keeps t is (keeps_by_blocks t c.requires) }
