use Rattle.std.proofs.Common.{◌≡◌, ◌<◌, length, drop, get_or, sym, ◌∙◌, ap, arith, length-set, length-drop, length-take, get_or-take, take}
use Rattle.std.proofs.lemmas.Grind.{same_number_lists}
use Rattle.std.proofs.lemmas.List.{drop_all}
use Rattle.puz_board.specs.BoardTexts.{numbers_in}
use Rattle.puz_board.proofs.TextLemmas.{kept_more, next_number, numbers_of-at_separator, numbers_of-nothing}
use Rattle.puz_board.proofs.numbers.read_numbers.Goals as goal

-- after a number that is counted and kept, the rest of the text has the others
pub loop-i-preserved-then-is_ascii_digit : goal.loop-i-preserved-then-is_ascii_digit
loop-i-preserved-then-is_ascii_digit c =
    let text = c.args.text.now in
    let before = c.loop-i.invariant in
    let number = c.number_at-number in
    let pushed = c.push.ensures in
    let next = next_number (numbers_in text) (numbers_in (drop number.result.end text)) c.loop-i.numbers.count number.result.value
    (sym number.ensures.number ∙ before.rest) in
    record {
      few = omega arith;
      within = let w = next.0 in omega arith;
      room = ap length pushed.kept ∙ length-set _ _ _ ∙ before.room;
      rest = next.2 ∙ ap (λ n. drop n (numbers_in text)) (sym pushed.count);
      kept = λ k l m. ap (λ xs. get_or xs k 0) pushed.kept
          ∙ kept_more c.loop-i.numbers.kept (numbers_in text) c.loop-i.numbers.count number.result.value before.room next.1 before.kept k (omega arith) m;
    }

-- passing over a separator leaves the numbers that were read and those that are left
pub loop-i-preserved : goal.loop-i-preserved
loop-i-preserved c =
    let text = c.args.text.now in
    let before = c.loop-i.invariant in
    record {
      few = omega arith;
      within = before.within;
      room = before.room;
      rest = sym (numbers_of-at_separator text c.requires.clean c.requires.short c.loop-i.i c.loop-i-test.true
          (sym c.if-is_ascii_digit.ensures.value)) ∙ before.rest;
      kept = before.kept;
    }

counted : (c : goal.After-loop-i) → c.loop-i.numbers.count ≡ length (numbers_in c.args.text.now)
counted c =
    let text = c.args.text.now in
    let before = c.loop-i.invariant in
    let none = sym numbers_of-nothing ∙ ap numbers_in (sym (drop_all c.loop-i.i text c.loop-i-test.false)) ∙ before.rest in
    let left : 0 ≡ length (drop c.loop-i.numbers.count (numbers_in text)) = ap length none in
    let cut = length-drop c.loop-i.numbers.count (numbers_in text) in
    let within = before.within in
    omega arith

-- at the end of the text, as many numbers were counted as it has
pub returns-clause-count : goal.returns-clause-count
returns-clause-count c = counted c

-- where a text has 25 numbers at most, those that are kept are all of them
pub returns-clause-kept : goal.returns-clause-kept
returns-clause-kept c few =
    let ns = numbers_in c.args.text.now in
    let kept = c.loop-i.numbers.kept in
    let count = c.loop-i.numbers.count in
    let all = counted c in
    let cut = length-take count kept in
    let room = c.loop-i.invariant.room in
    let same : length (take count kept) ≡ length ns = omega arith in
    same_number_lists (take count kept) ns same
    (λ k l. let below : k < count = omega arith in get_or-take count kept k 0 below ∙ c.loop-i.invariant.kept k below (omega arith))
