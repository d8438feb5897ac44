use Rattle.std.proofs.Common.{◌≡◌, ◌<◌, true, length, sym, arith}
use Rattle.puz_board.specs.BoardTexts.{long_run, three_digits_at}
use Rattle.puz_board.proofs.FirstLemmas.{first_below-none, first_below-some}
use Rattle.puz_board.proofs.texts.first_long_run.Goals as goal

-- the first place with three digits from there on is the begin of the first long run
pub returns-then-has_three_digits : goal.returns-then-has_three_digits
unfolding long_run
returns-then-has_three_digits c =
    let text = c.args.text.now in
    let within : c.loop-i.i < length text = omega arith in
    let here : three_digits_at text c.loop-i.i ≡ true = sym c.if-has_three_digits.ensures in
    sym (first_below-some (three_digits_at text) (length text) c.loop-i.i within c.loop-i.invariant here)

-- where three digits in a row begin at no place, the text has no long run
pub returns : goal.returns
unfolding long_run
returns c =
    let text = c.args.text.now in
    sym (first_below-none (three_digits_at text) (length text) (λ k l. c.loop-i.invariant k (omega arith)))
