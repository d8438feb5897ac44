use Rattle.std.proofs.Common.{arith}
use Rattle.pdb_words.proofs.MaskLemmas.{no_digit_written, one_digit_written}
use Rattle.pdb_words.proofs.masks.one_digit.Goals as goal

-- for a digit its number is answered, which is the tile that it writes
pub returns-then-is_ascii_digit-clause-written : goal.returns-then-is_ascii_digit-clause-written
returns-then-is_ascii_digit-clause-written c = grind (arith, one_digit_written c.args.digit, c.is_ascii_digit.ensures.bound, c.if-is_ascii_digit.ensures.bound)

-- for a byte that is no digit no tile is answered, as it writes none
pub returns-else-is_ascii_digit-clause-written : goal.returns-else-is_ascii_digit-clause-written
returns-else-is_ascii_digit-clause-written c = grind
    (arith, no_digit_written c.args.digit, c.if-is_ascii_digit.ensures.value, c.if-is_ascii_digit.ensures.cases)
