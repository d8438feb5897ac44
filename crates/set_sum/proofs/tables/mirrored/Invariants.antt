use Rattle.std.proofs.Common.{◌≡◌, ℕ, ◌<◌, length, slice_index}
use Rattle.puz_board.specs.Transposing.{transposed_cell}
use Rattle.set_sum.proofs.tables.mirrored.Given as goal

-- the cells of the numbers up to this one are those on the transposed board
abbrev pub invariant-loop-number : goal.invariant-loop-number
invariant-loop-number l =
    (length l.cells ≡ 25) × ((t : ℕ) → t < l.number → slice_index l.cells t ≡ transposed_cell l.side (slice_index l.found (transposed_cell l.side t)))
