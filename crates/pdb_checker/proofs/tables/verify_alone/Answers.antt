use Rattle.std.proofs.Common.{Ok, Err, refl, rules}
use Rattle.pdb_verdict.specs.Table.{IsExactFor}
use Rattle.pdb_verdict.specs.declared.verdicts.Fault.TheVariants as fault
use Rattle.pdb_checker.proofs.tables.verify_alone.Goals as goal

-- where the file is exact, the verdict has its side, its mask and its census
pub returns-in-Ok : goal.returns-in-Ok
returns-in-Ok c =
    let exact : IsExactFor c.args.file.now c.side.result c.mask.result c.census.result = search (rules, c.in-Ok.ensures.ok) in
    (Ok (c.side.result, c.mask.result, c.census.result), exact, refl)

-- where it is refused, the refusal is that of the file
pub returns-in-Err : goal.returns-in-Err
returns-in-Err c = (Err (fault.Table c.in-Err.refused), c.in-Err.ensures.err, refl)
