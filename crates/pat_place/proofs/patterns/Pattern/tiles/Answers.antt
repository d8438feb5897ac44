use Rattle.std.proofs.Common.{sym, subst, ◌≤◌, length}
use Rattle.pat_place.specs.Patterns.{IsPattern}
use Rattle.pat_place.proofs.PatternLemmas.{few_tiles}
use Rattle.pat_place.proofs.patterns.Pattern.tiles.Goals as goal

-- the mask of a pattern has at most 8 numbers to put into the list
pub put_numbers-requires-clause-few : goal.put_numbers-requires-clause-few
put_numbers-requires-clause-few c = subst (λ p. length p.tiles ≤ 8) (sym c.self.view_is)
    (few_tiles c.args.self.now (subst IsPattern c.self.view_is c.self.invariant.pattern))
