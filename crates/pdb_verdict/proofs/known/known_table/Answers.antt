use Rattle.std.proofs.Common.{◌≡◌, subst, sym}
use Rattle.tab_rule.specs.ExactTables.{AreExact}
use Rattle.tab_rule.proofs.TableLemmas.{keeps_from_exact}
use Rattle.pdb_verdict.proofs.known.known_table.Goals as goal

-- the entries of an exact table keep the local rule, block by block
pub of_view-requires : goal.of_view-requires
of_view-requires c =
    let is = c.requires.1 in
    let same : c.in-Ok.view ≡ c.requires.0 = (let e = c.in-Ok.ensures.viewed c.requires.0 is.is_file in cc) in
    let keeps = keeps_from_exact c.in-Ok.view c.in-Ok.ensures.ok.table (subst AreExact (sym same) is.exact) in
    λ block low number inside. keeps number
