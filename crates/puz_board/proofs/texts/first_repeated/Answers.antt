use Rattle.std.proofs.Common.{◌≡◌, ◌<◌, true, length, sym, ◌∙◌, arith}
use Rattle.puz_board.specs.BoardTexts.{repeated, repeated_at}
use Rattle.puz_board.proofs.FirstLemmas.{first_below-none, first_below-some}
use Rattle.puz_board.proofs.texts.first_repeated.Goals as goal

-- the first number that is among those before it is the first repeated one
pub returns-then-contains : goal.returns-then-contains
unfolding repeated
returns-then-contains c =
    let numbers = c.args.numbers.now in
    let within : c.loop-i.i < length numbers = omega arith in
    let here : repeated_at numbers c.loop-i.i ≡ true = sym c.contains.ensures.value ∙ c.if-contains.true in
    sym (first_below-some (repeated_at numbers) (length numbers) c.loop-i.i within c.loop-i.invariant here)

-- where no number is among those before it, none is repeated
pub returns : goal.returns
unfolding repeated
returns c =
    let numbers = c.args.numbers.now in
    sym (first_below-none (repeated_at numbers) (length numbers) (λ k l. c.loop-i.invariant k (omega arith)))
