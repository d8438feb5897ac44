use Rattle.std.proofs.Common.{◌<◌, [], length, get_or, sym, ◌∙◌, ap, subst}
use Rattle.std.specs.List.{AllByRecursion}
use Rattle.set_sum.specs.Bundles.{IsBundle}
use Rattle.set_sum.proofs.BundleLemmas.{set_there}
use Rattle.set_sum.proofs.bundles.Bundle.members.Goals as goal

members_are : goal.returns-clause-members
members_are c = c.members.ensures.members ∙ ap (λ w. get_or w.sets c.args.set []) c.self.view_is

-- the members of a set that are answered are those that the bundle shows
pub returns-clause-members : goal.returns-clause-members
returns-clause-members = members_are

-- each member that is answered has a table of the bundle
pub returns-clause-there : goal.returns-clause-there
returns-clause-there c =
    subst (AllByRecursion (λ m. m.table < length c.args.self.now.tables)) (sym (members_are c))
    (set_there c.args.self.now (subst IsBundle c.self.view_is c.self.invariant.bundle) c.args.set c.requires)
