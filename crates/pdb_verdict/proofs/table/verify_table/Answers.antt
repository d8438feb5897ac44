use Rattle.std.proofs.Common.{Ok, refl, rules}
use Rattle.pdb_verdict.specs.Table.{IsExactFor}
use Rattle.pdb_verdict.proofs.table.verify_table.Goals as goal

-- where the table file is exact, the verdict has its side, its mask and its census
pub returns : goal.returns
returns g c =
    let exact : IsExactFor c.args.table.now c.side.result c.mask.result c.census.result = search (rules, c.in_ok-table.ensures.ok) in
    (Ok (c.side.result, c.mask.result, c.census.result), exact, refl)
