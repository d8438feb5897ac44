use Rattle.std.proofs.Common.{◌<◌, length, sym, subst}
use Rattle.tab_file.proofs.TableLemmas.{entry_count-lt}
use Rattle.tab_file.proofs.views.TableView.entries.Goals as goal

-- a table that is viewed has fewer than 2^32 entries
pub returns-clause-few : goal.returns-clause-few
returns-clause-few c =
    subst (λ t. length t.entries < 4294967296) c.self.view_is (
    subst (λ n. n < 4294967296) (sym c.self.invariant.table.entries) (entry_count-lt c.self.inside.pattern c.self.invariant.table.pattern))
