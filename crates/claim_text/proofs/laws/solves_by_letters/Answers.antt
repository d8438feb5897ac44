use Rattle.claim_text.proofs.LetterLemmas.{letters_solve, solved_by_letters}
use Rattle.claim_text.proofs.laws.solves_by_letters.Goals as goal

-- where a moves text solves a board, its letters alone solve it
pub returns-clause-letters : goal.returns-clause-letters
returns-clause-letters c = letters_solve

-- where its letters alone solve a board, a text of letters and separators does
pub returns-clause-text : goal.returns-clause-text
returns-clause-text c = solved_by_letters
