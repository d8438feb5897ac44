use Rattle.std.proofs.Common.{◌≢◌, ◌*◌, ◌≤◌, refl, sym, ◌∙◌, ap, ap₂, subst, arith, Ok, Some, None}
use Rattle.puz_board.specs.Boards.{side_of}
use Rattle.puz_board.specs.BoardTexts.{repeated}
use Rattle.puz_board.proofs.FaultLemmas.{board_of_numbers-no_side, board_of_numbers-sided, IsBoard-from_tests}
use Rattle.puz_board.proofs.texts.arrange.Goals as goal

-- a count of numbers that no board has is the fault B3
pub returns-in_default : goal.returns-in_default
returns-in_default c = sym (board_of_numbers-no_side c.args.numbers.now c.in_default.ensures)

-- the first number that isn't below the count of numbers is the fault B4
pub returns-in-Some-first_too_large : goal.returns-in-Some-first_too_large
returns-in-Some-first_too_large c =
    let sided : side_of c.args.numbers.now ≢ 0 = λ e. omega (arith, c.in-Some.ensures) in
    sym (board_of_numbers-sided c.args.numbers.now (Some c.in-Some-first_too_large.i)
    (repeated c.args.numbers.now) sided c.in-Some-first_too_large.ensures refl)

-- the first number that equals an earlier one is the fault B5
pub returns-in-Some-first_repeated : goal.returns-in-Some-first_repeated
returns-in-Some-first_repeated c =
    let sided : side_of c.args.numbers.now ≢ 0 = λ e. omega (arith, c.in-Some.ensures) in
    sym (board_of_numbers-sided c.args.numbers.now None
    (Some c.in-Some-first_repeated.i) sided c.in_default-first_too_large.ensures c.in-Some-first_repeated.ensures)

-- numbers of a right count, none of them too large or repeated, are those of a board
pub with_numbers-requires-clause-board : goal.with_numbers-requires-clause-board
with_numbers-requires-clause-board c =
    let side = c.in-Some.ensures in
    IsBoard-from_tests c.args.numbers.now
    (side.3 ∙ ap₂ (λ m n. m * n) side.0 side.0)
    (subst (λ n. 2 ≤ n) side.0 side.1)
    (subst (λ n. n ≤ 5) side.0 side.2)
    (sym c.in_default-first_too_large.ensures)
    (sym c.in_default-first_repeated.ensures)

-- numbers with no fault are answered as their board
pub returns : goal.returns
returns c =
    let sided : side_of c.args.numbers.now ≢ 0 = λ e. omega (arith, c.in-Some.ensures) in
    ap Ok c.with_numbers.ensures ∙
    sym (board_of_numbers-sided c.args.numbers.now None None sided c.in_default-first_too_large.ensures c.in_default-first_repeated.ensures)
