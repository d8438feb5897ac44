use Rattle.std.proofs.Common.{◌≡◌, length, sym, ◌∙◌, ap, subst, arith}
use Rattle.std.specs.Prelude.{count_ones}
use Rattle.pat_place.specs.Patterns.{IsPattern}
use Rattle.pat_place.proofs.MaskLemmas.{length-numbers_below}
use Rattle.pat_place.proofs.PatternLemmas.{few_tiles}
use Rattle.pat_place.proofs.patterns.Pattern.size.Goals as goal

-- as many bits are set in the mask as the pattern has tiles
pub returns-clause-size : goal.returns-clause-size
returns-clause-size c = sym (length-numbers_below 32 c.self.inside.mask c.self.invariant.bits) ∙ ap (λ p. length p.tiles) c.self.view_is

-- the size of a pattern is at most 8
pub returns-clause-few : goal.returns-clause-few
returns-clause-few c =
    let e : count_ones c.self.inside.mask ≡ length c.args.self.now.tiles = returns-clause-size c in
    let few = few_tiles c.args.self.now (subst IsPattern c.self.view_is c.self.invariant.pattern) in
    omega arith
