use Rattle.std.proofs.Common.{◌≡◌, true, false, sym, ◌∙◌, ◌||◌}
use Rattle.std.proofs.lemmas.List.Sums.{list_all-from_AllPass}
use Rattle.puz_board.specs.BoardTexts.{is_separator}
use Rattle.puz_board.specs.MovesTexts.{is_letter}
use Rattle.claim_text.proofs.letters.is_moves_text.Goals as goal

-- a text that has other bytes than letters and separators is no moves text
pub returns-else-are_letters : goal.returns-else-are_letters
returns-else-are_letters c = (
  λ is. absurd (let no : true ≡ false = sym is ∙ c.if-are_letters.false in cc),
  λ text. c.are_letters.ensures ∙ list_all-from_AllPass (λ b. is_letter b || is_separator b) c.args.text.now text.alone,
)
