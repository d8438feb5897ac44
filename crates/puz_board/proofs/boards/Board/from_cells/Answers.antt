use Rattle.std.proofs.Common.{◌≡◌, List, ℕ, Result, Ok, Err, sym, ◌∙◌, subst}
use Rattle.std.specs.Option.{SomeIff}
use Rattle.std.specs.Result.{result_ok}
use Rattle.puz_board.specs.declared.texts.BoardFault.{BoardFault}
use Rattle.puz_board.specs.Boards.{IsBoard}
use Rattle.puz_board.specs.BoardTexts.{board_of_numbers}
use Rattle.puz_board.proofs.FaultLemmas.{board_of_numbers-board}
use Rattle.puz_board.proofs.SpellingLemmas.{taken-board_of_numbers}
use Rattle.puz_board.proofs.boards.Board.from_cells.Goals as goal

taken : (xs : List ℕ) (r : Result (List ℕ) BoardFault) → r ≡ board_of_numbers xs → SomeIff (result_ok r) (IsBoard xs) xs
taken xs (Ok b) e = let parts = taken-board_of_numbers xs b (sym e) in (parts.1, sym parts.0)
taken xs (Err fault) e = λ good. let none : Err fault ≡ Ok xs = e ∙ board_of_numbers-board xs good in cc

-- a board comes of numbers just where they are those of a board, and has these numbers
pub returns : goal.returns
returns c =
    let xs = c.args.numbers.now in
    subst (λ o. SomeIff o (IsBoard xs) xs) (sym c.ok.ensures.value) (taken xs c.arrange.result c.arrange.ensures)
