use Rattle.std.proofs.Common.{rules}
use Rattle.pdb_verdict.proofs.tables.over_tables.Goals as goal

-- the files are those that are given up, not too many, and their tables are to be folded
pub over_given_up-requires : goal.over_given_up-requires
over_given_up-requires g c κs =
    let given = rw c.in-Some.is at c.requires.given in
    let read = rw (given.0, c.in-Some.is) at c.requires.read in
    search (rules, given, read)

-- the files are those that are kept
pub over_kept-requires : goal.over_kept-requires
over_kept-requires g c κs =
    let read = rw c.in-None.is at c.requires.read in
    search (rules, read)
