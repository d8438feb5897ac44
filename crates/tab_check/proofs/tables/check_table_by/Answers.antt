use Rattle.std.proofs.Common.{◌<◌, ◌^◌, arith}
use Rattle.pat_place.proofs.CountLemmas.{few_placements, few_slots}
use Rattle.tab_file.specs.Tables.{entry_count, placement_count}
use Rattle.tab_check.proofs.JobLemmas.{block_begin-rises, block_begin-small, block_begin-zero}
use Rattle.tab_check.proofs.TableLemmas.{keeps_whole, least_bad_whole}
use Rattle.tab_check.proofs.tables.check_table_by.Goals as goal

-- the blocks begin at 0, rise, and end at 2^32 at most, and the rows kept are the pattern's
pub invariant_of-blocks : goal.invariant_of-blocks
invariant_of-blocks g c =
    let p = c.in-Ok.view.pattern in
    let pat = c.in-Ok.ensures.ok.table.pattern in
    let placements : placement_count p < 2 ^ 32 = few_placements p pat in
    let entries : entry_count p < 2 ^ 32 = few_slots p pat in
    record {
      serves = c.rows_of-rows.ensures;
      few_blocks = omega arith;
      from_zero = block_begin-zero p;
      rises = block_begin-rises p;
      small = block_begin-small p (omega arith);
    }

-- where no job gives a bad entry, each entry keeps the local rule
pub of_view-requires : goal.of_view-requires
of_view-requires g c =
    let keeps = keeps_whole c.in-Ok.view c.in-Ok.ensures.ok.table.pattern (rw c.in-Ok-None.field-0-is at c.in-Ok-None.ensures) in
    λ block low number inside. keeps number

-- the entry for which the file is refused is the least bad one of the table in it
pub returns-in-Ok-Some-clause-fault : goal.returns-in-Ok-Some-clause-fault
returns-in-Ok-Some-clause-fault g c =
    let bad = least_bad_whole c.in-Ok.view c.in-Ok-Some.number (rw c.in-Ok-Some.field-0-is at c.in-Ok-Some.ensures) in
    (c.in-Ok.view, c.in-Ok.ensures.ok, bad)
