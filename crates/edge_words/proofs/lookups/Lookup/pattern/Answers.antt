use Rattle.std.proofs.Common.{subst}
use Rattle.edge_words.specs.Lookups.{HaveEntries}
use Rattle.edge_words.proofs.LookupLemmas.{have_entries}
use Rattle.edge_words.proofs.lookups.Lookup.pattern.Goals as goal

-- the table of a lookup is exact, so that it has an entry for each board of its side
pub returns-clause-entries : goal.returns-clause-entries
returns-clause-entries c = subst HaveEntries c.self.view_is (have_entries c.self.inside.pattern c.self.inside.entries.now c.self.invariant.exact)
