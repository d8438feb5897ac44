use Rattle.pdb_checker.proofs.BundleLemmas.{parts_next}
use Rattle.pdb_checker.proofs.bundles.bundle_of.Goals as goal

-- each file is that of an exact table
pub known_table-requires : goal.known_table-requires
known_table-requires c = c.requires.known c.loop-table.table-index _ c.loop-table-test.true

-- with one part more, they are the tables of the files so far and of this one
pub loop-table-preserved : goal.loop-table-preserved
loop-table-preserved c =
    rw (c.in_ok-push.ensures.items, c.with_slots-known.ensures)
    (parts_next c.args.over.now.tables.now c.loop-table.table-index _ c.loop-table-test.true c.loop-table.parts.items c.known_table.result
    c.loop-table.invariant c.known_table.ensures)
