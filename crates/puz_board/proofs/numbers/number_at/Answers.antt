use Rattle.std.proofs.Common.{sym, arith}
use Rattle.puz_board.proofs.TextLemmas.{numbers_of-at_one, numbers_of-at_two}
use Rattle.puz_board.proofs.numbers.number_at.Goals as goal
use Rattle.puz_board.proofs.numbers.number_at.Goals.{else-next-text-via-then-next-text+else-is_ascii_digit, else-next-text-via-else-next-text}

-- where a second digit follows, the number of both comes first of those left in the text
pub returns-then-is_ascii_digit-clause-number : goal.returns-then-is_ascii_digit-clause-number
returns-then-is_ascii_digit-clause-number c =
    numbers_of-at_two c.args.text.now c.requires.clean c.requires.short c.args.start c.if-next-text.true c.requires.digit
    (sym c.if-is_ascii_digit.ensures.value)

-- where no second digit follows, the digit's number comes first of those left in the text
pub returns-else-next-text-clause-number : goal.returns-else-next-text-clause-number
returns-else-next-text-clause-number c =
    numbers_of-at_one c.args.text.now c.requires.clean c.requires.short c.args.start c.requires.start c.requires.digit
    (λ l. elim c.else-next-text.branch [
      | else-next-text-via-then-next-text+else-is_ascii_digit w ↦ sym w.if-is_ascii_digit.ensures.value
      | else-next-text-via-else-next-text w ↦ absurd (omega arith)
    ])
