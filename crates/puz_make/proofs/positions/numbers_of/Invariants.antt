use Rattle.std.proofs.Common.{◌≡◌, length, take}
use Rattle.puz_make.proofs.positions.numbers_of.Given as goal

-- the cells up to this one have their numbers
abbrev pub invariant-loop-cell : goal.invariant-loop-cell
invariant-loop-cell l = (length l.numbers ≡ 25) × (take l.cell l.numbers ≡ take l.cell l.board)
