use Rattle.std.proofs.Common.{◌<◌, length, refl, sym, ◌∙◌, ap, subst, Some, None, Err}
use Rattle.puz_board.specs.declared.texts.BoardFault.TheVariants.{B3}
use Rattle.puz_board.specs.BoardTexts.{board_of_numbers, long_run, numbers_in}
use Rattle.puz_board.proofs.FaultLemmas.{board_of_numbers-no_side, board_of_text-is, side_of_many}
use Rattle.puz_board.proofs.texts.read_text.Goals as goal

-- the first stray byte of a text is the fault B1
pub returns-in-Some : goal.returns-in-Some
returns-in-Some c = sym (board_of_text-is c.args.text.now (Some c.in-Some.place) (long_run c.args.text.now) c.in-Some.ensures refl)

-- where no byte is stray, the first long run of a text is the fault B2
pub returns-in-Some-first_long_run : goal.returns-in-Some-first_long_run
returns-in-Some-first_long_run c = sym (board_of_text-is c.args.text.now None
    (Some c.in-Some-first_long_run.place) c.in_default.ensures c.in-Some-first_long_run.ensures)

-- where the text has more than 25 numbers, their count is the fault B3
pub returns-then-numbers-gt25 : goal.returns-then-numbers-gt25
returns-then-numbers-gt25 c =
    let count = c.read_numbers-numbers.ensures.count in
    let none = side_of_many (length (numbers_in c.args.text.now)) (subst (λ n. 25 < n) count c.if-numbers-gt25.true) in
    ap (λ n. Err (B3 n)) count ∙
    sym (board_of_text-is c.args.text.now None None c.in_default.ensures c.in_default-first_long_run.ensures
    ∙ board_of_numbers-no_side (numbers_in c.args.text.now) none)

-- where no byte is stray and no run is long, the answer is what the text's numbers make
pub returns : goal.returns
returns c =
    c.arrange.ensures ∙
    ap board_of_numbers (c.read_numbers-numbers.ensures.kept c.if-numbers-gt25.false) ∙
    sym (board_of_text-is c.args.text.now None None c.in_default.ensures c.in_default-first_long_run.ensures)
