use Rattle.std.proofs.Common.{◌≡◌, arith, length, rules}
use Rattle.std.proofs.lemmas.Grind.{common_steps}
use Rattle.tab_file.specs.Tables.{entry_count}
use Rattle.tab_make.proofs.TableLemmas.{parts_written}
use Rattle.tab_make.proofs.tables.draft.Goals as goal

-- the header and the entries behind it are a table file of the pattern
pub returns-clause-file : goal.returns-clause-file
returns-clause-file g c =
    let entries = c.fill_entries.new.entries in
    let front = c.split_at_mut-header.result.0.now in
    let made = c.in_ok-file.ensures in
    let count : length entries ≡ entry_count c.args.pattern.now = grind (arith, common_steps) in
    let whole = parts_written front entries c.in_ok-file.file.items c.in_ok-file.file.len (search rules) (grind (arith, common_steps)) in
    (entries, rw (whole, c.split_at_mut-header.ensures.front, c.deref_mut.ensures.value) (made.header entries count))
