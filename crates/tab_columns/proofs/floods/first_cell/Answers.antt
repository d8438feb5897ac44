use Rattle.std.specs.Int.{trailing_zeros, w32}
use Rattle.std.proofs.Common.{arith}
use Rattle.std.proofs.lemmas.Nat.Bits.{bit_at-trailing_zeros}
use Rattle.tab_columns.proofs.FloodLemmas.{first_cell_is, shifted_one}
use Rattle.tab_columns.proofs.floods.first_cell.Goals as goal

-- of a mask that isn't empty, a one shifted by its trailing zeros is the first cell
pub returns-else-mask-eq0 : goal.returns-else-mask-eq0
returns-else-mask-eq0 c =
    let some = c.if-mask-eq0.false in
    let least = bit_at-trailing_zeros w32 c.args.mask (omega arith) c.ranges.mask.fits in
    first_cell_is c.args.mask (trailing_zeros w32 c.args.mask) _ some least.1 least.2 (shifted_one (trailing_zeros w32 c.args.mask) least.0)
