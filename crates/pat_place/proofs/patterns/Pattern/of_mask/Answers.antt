use Rattle.std.proofs.Common.{refl}
use Rattle.std.proofs.lemmas.Bool.{false≢true, both_ways}
use Rattle.pat_place.proofs.MaskOfLemmas.{mask_of-numbers_below}
use Rattle.pat_place.proofs.PatternLemmas.{pattern_from, Tiles-from, Sized-from}
use Rattle.pat_place.proofs.patterns.Pattern.of_mask.Goals as goal
use Rattle.pat_place.proofs.patterns.Pattern.of_mask.Goals.{then-not-has_tiles_only-via-then-not-has_tiles_only}
use Rattle.pat_place.proofs.patterns.Pattern.of_mask.Goals.{then-not-has_tiles_only-via-else-not-has_tiles_only+then-not-is_size}

-- where the mask has a number that is no tile, or a wrong count of tiles, it makes no pattern
pub returns-then-not-has_tiles_only-clause-pattern : goal.returns-then-not-has_tiles_only-clause-pattern
returns-then-not-has_tiles_only-clause-pattern c = (
  λ no. absurd (false≢true no),
  λ good. elim c.then-not-has_tiles_only.branch [
    | then-not-has_tiles_only-via-then-not-has_tiles_only w ↦ absurd
        (both_ways c.has_tiles_only.result w.if-not-has_tiles_only.true
        (c.has_tiles_only.ensures.1 (Tiles-from c.args.side c.get-n.result c.args.mask c.get-n.ensures.value good)))
    | then-not-has_tiles_only-via-else-not-has_tiles_only+then-not-is_size w ↦ absurd
        (both_ways w.is_size.result w.if-not-is_size.true
        (w.is_size.ensures.1 (Sized-from c.args.side c.get-n.result c.args.mask c.get-n.ensures.value c.ranges.mask.fits good)))
  ],
)

-- a side and a mask that pass both tests are the fields of a pattern
pub invariant_of-result : goal.invariant_of-result
invariant_of-result c = record {
  pattern = pattern_from c.args.side c.get-n.result c.args.mask c.get-n.ensures.value c.get-n.ensures.low c.get-n.ensures.high c.ranges.mask.fits
      (c.has_tiles_only.ensures.0 c.if-not-has_tiles_only.false) (c.is_size.ensures.0 c.if-not-is_size.false);
  bits = c.ranges.mask.fits;
  of_tiles = mask_of-numbers_below 32 c.args.mask c.ranges.mask.fits;
}

-- where the mask passes both tests, its numbers are a pattern of the side, and one is answered
pub returns-clause-pattern : goal.returns-clause-pattern
returns-clause-pattern c = (
  λ yes. pattern_from c.args.side c.get-n.result c.args.mask c.get-n.ensures.value c.get-n.ensures.low c.get-n.ensures.high c.ranges.mask.fits
      (c.has_tiles_only.ensures.0 c.if-not-has_tiles_only.false) (c.is_size.ensures.0 c.if-not-is_size.false),
  λ good. refl,
)
