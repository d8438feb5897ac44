use Rattle.std.proofs.Common.{arith}
use Rattle.pdb_words.proofs.MaskLemmas.{no_digits_written, two_digits_small}
use Rattle.pdb_words.proofs.masks.two_digits.Goals as goal
use Rattle.pdb_words.proofs.masks.two_digits.Goals.{then-tens-lt49-via-then-tens-lt49, then-tens-lt49-via-else-tens-lt49+then-tens-gt51}
use Rattle.pdb_words.proofs.masks.two_digits.Goals.{then-tens-lt49-via-else-tens-lt49+else-tens-gt51+then-not-is_ascii_digit}

-- where the first byte isn't 1 to 3 or the second is no digit, no tile is answered
pub returns-then-tens-lt49-clause-written : goal.returns-then-tens-lt49-clause-written
returns-then-tens-lt49-clause-written c = elim c.then-tens-lt49.branch [
  | then-tens-lt49-via-then-tens-lt49 w ↦ grind (arith, no_digits_written c.args.tens c.args.ones, w.if-tens-lt49)
  | then-tens-lt49-via-else-tens-lt49+then-tens-gt51 w ↦ grind (arith, no_digits_written c.args.tens c.args.ones, w.if-tens-gt51)
  | then-tens-lt49-via-else-tens-lt49+else-tens-gt51+then-not-is_ascii_digit w ↦ grind
      (arith, no_digits_written c.args.tens c.args.ones, w.if-not-is_ascii_digit.ensures.cases)
]

-- for two digits of a number below 32 this number is answered, which is the tile that they write
pub returns-then-tile-lt32-clause-written : goal.returns-then-tile-lt32-clause-written
returns-then-tile-lt32-clause-written c = grind (
  arith,
  two_digits_small c.args.tens c.args.ones c.from.result,
  c.is_ascii_digit.ensures.bound,
  c.if-not-is_ascii_digit.ensures.bound,
)
