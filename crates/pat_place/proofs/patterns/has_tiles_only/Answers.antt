use Rattle.std.proofs.Common.{◌^◌, ◌/◌, ◌%◌, eq-eqb, eqb-true}
use Rattle.pat_place.proofs.PatternLemmas.{tiles_only, even_of_tiles, low_of_tiles}
use Rattle.pat_place.proofs.patterns.has_tiles_only.Goals as goal

-- the numbers of an even mask are tiles exactly where no bit from the count of cells on is set
pub returns-then-mask-eq0 : goal.returns-then-mask-eq0
returns-then-mask-eq0 c = (
  λ t. tiles_only c.args.mask c.args.cells c.if-mask-eq0.true (eqb-true (c.args.mask / 2 ^ c.args.cells) 0 t),
  λ all. eq-eqb (c.args.mask / 2 ^ c.args.cells) 0 (low_of_tiles c.args.mask c.args.cells c.ranges.mask.fits all),
)

-- an odd mask has the blank's number, and so other numbers than tiles
pub returns-else-mask-eq0 : goal.returns-else-mask-eq0
returns-else-mask-eq0 c = (
  λ t. absurd (c.if-mask-eq0.false (eqb-true (c.args.mask % 2) 0 t)),
  λ all. eq-eqb (c.args.mask % 2) 0 (even_of_tiles c.args.mask c.args.cells all),
)
