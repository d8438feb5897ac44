-- Laws of texts of claims, of moves texts, and of the lines that answer claims.
use Rattle.std.specs.Prelude.{◌≡◌, ℕ, ◌||◌, true, List, ◌++◌}
use Rattle.std.specs.List.{AllPass}
use Rattle.puz_board.specs.BoardTexts.{is_separator}
use Rattle.puz_board.specs.MovesTexts.{Solves, is_letter}
use Rattle.puz_goal.specs.declared.goals.Goal.{Goal}
use Rattle.claim_text.specs.Claims.{HasNo, IsNoClaim, ShownClaim, letters}
use Rattle.claim_text.specs.Lines.{Told, WhatHasNoLf, beginning, told_line, told_text}
use Rattle.claim_text.specs.Texts.{AreClaims, IsFirstNoClaim, is_remark}

-- a text is one list of claims at most
abbrev pub TextsHaveOneReading : Type 0
TextsHaveOneReading = (text : List ℕ) (a b : List ShownClaim) → AreClaims text a → AreClaims text b → a ≡ b

-- it has one first line at most that is no claim
abbrev pub TextsHaveOneFault : Type 0
TextsHaveOneFault = (text : List ℕ) (a b : ℕ) → IsFirstNoClaim text a → IsFirstNoClaim text b → a ≡ b

-- a text of claims has none
abbrev pub ClaimsHaveNoFault : Type 0
ClaimsHaveNoFault = (text : List ℕ) (claims : List ShownClaim) (number : ℕ) → AreClaims text claims → ¬ IsFirstNoClaim text number

-- no remark is a claim
abbrev pub RemarksAreNoClaims : Type 0
RemarksAreNoClaims = (line : List ℕ) → is_remark line ≡ true → IsNoClaim line

-- the letters of a moves text that solves a board solve it, in as many moves
abbrev pub SolvesByLetters : Type 0
SolvesByLetters = (b text : List ℕ) (n : ℕ) → Solves b text n → Solves b (letters text) n

-- and back, where the text has letters and separators alone
abbrev pub LettersSolve : Type 0
LettersSolve =
    (b text : List ℕ) (n : ℕ) → AllPass (λ byte. is_letter byte || is_separator byte) text → Solves b (letters text) n → Solves b text n

-- a line that answers a claim has its LF at its end and nowhere else, where what a claim is refused for has none
abbrev pub AnswersAreLines : Type 0
AnswersAreLines = (goal : Goal) (told : Told) → WhatHasNoLf told → HasNo 10 (told_text goal told)

-- a line that answers a claim begins as its kind says
abbrev pub AnswersBegin : Type 0
AnswersBegin = (goal : Goal) (told : Told) → (rest : List ℕ) × (told_line goal told ≡ beginning told ++ rest)
