use Rattle.std.proofs.Common.{◌∙◌}
use Rattle.tab_file.proofs.HeaderLemmas.{IsTableFile-written, table_of_file-written}
use Rattle.tab_file.proofs.headers.header_of.Goals as goal

-- with a table's entries behind it, the header that is made is the table's file
pub returns-clause-file : goal.returns-clause-file
returns-clause-file c entries all =
    rw (c.write_u64.ensures, c.write_u32.ensures, c.copy_from_slice.ensures.after) (
    IsTableFile-written c.args.pattern.now c.get.result c.size.result c.mask.result c.entry_count.result c.size.ensures.pattern
    (c.get.ensures.value ∙ c.side.ensures.side) c.size.ensures.size c.mask.ensures c.mask.type_inv c.entry_count.ensures.count
    c.entry_count.type_inv entries all)

-- with a table's entries behind it, the header that is made is viewed as the table
pub returns-clause-viewed : goal.returns-clause-viewed
returns-clause-viewed c entries all =
    rw (c.write_u64.ensures, c.write_u32.ensures, c.copy_from_slice.ensures.after) (
    table_of_file-written c.args.pattern.now c.get.result c.size.result c.mask.result c.entry_count.result c.size.ensures.pattern
    (c.get.ensures.value ∙ c.side.ensures.side) c.size.ensures.size c.mask.ensures c.mask.type_inv c.entry_count.ensures.count
    c.entry_count.type_inv entries all)
