-- The lines that answer claims.
use Rattle.std.specs.Prelude.{ℕ, ◌≤◌, if◌then◌else◌, codes, decimal, drop, flat_map, length, List, [], ◌++◌, ⊤}
use Rattle.std.specs.List.{list_any}
use Rattle.puz_board.specs.MovesTexts.{is_letter}
use Rattle.puz_goal.specs.declared.goals.Goal.{Goal}
use Rattle.puz_goal.specs.declared.goals.Goal.TheVariants.{First, Last}
use Rattle.puz_goal.specs.Goals.{goal_words}
use Rattle.move_strings.specs.BoundParts.{ShownPart}
use Rattle.claim_text.specs.Claims.{HasNo, ShownAsks, ShownClaim, letters, part_words, shortest, moves, bound, part}

-- ---- a claim in words

-- the numbers of the cells, each with one space before it
abbrev pub numbers : List ℕ → List ℕ
numbers b = flat_map (λ n. codes " " ++ decimal n) b

-- the letters of a moves text, with one space before them where there are any
abbrev pub spaced_letters : List ℕ → List ℕ
spaced_letters text = if list_any is_letter text then codes " " ++ letters text else []

-- what stands behind the board
abbrev pub asks_words : ShownAsks → List ℕ
asks_words shortest = []
asks_words (moves text) = codes " ;" ++ spaced_letters text
asks_words (bound n) = codes " : " ++ decimal n
asks_words (part n p) = codes " : " ++ decimal n ++ codes " part " ++ part_words p

-- the claim behind the word `of`: " 3 2 1 0", " 3 2 1 0 ; ULDRUL", " 3 2 1 0 : 6" or " 3 2 1 0 : 6 part 0/3"
abbrev pub claim_words : ShownClaim → List ℕ
claim_words claim = numbers claim.board ++ asks_words claim.asks

-- its line, without a space before it
abbrev pub claim_line : ShownClaim → List ℕ
claim_line claim = drop 1 (claim_words claim) ++ codes "\n"

-- ---- the answers

-- no solution of the board has fewer moves than this; this part of this bound of the board holds; these moves, so many of them,
-- are a shortest solution of the board; this solution shows that the claim is false; or this is why the claim is refused
pub data Told : Type 0 where
  bounded : ℕ → List ℕ → Told
  part_bounded : ShownPart → ℕ → List ℕ → Told
  optimal : ℕ → List ℕ → List ℕ → Told
  shorter : List ℕ → ShownClaim → Told
  refused : List ℕ → ShownClaim → Told

-- the answer in words, whatever the goal
abbrev pub told_words : Told → List ℕ
told_words (bounded n b) = codes "bound " ++ decimal n ++ codes " of" ++ numbers b
told_words (part_bounded p n b) = codes "part " ++ part_words p ++ codes " of bound " ++ decimal n ++ codes " of" ++ numbers b
told_words (optimal n b text) = codes "optimal " ++ decimal n ++ codes " of" ++ claim_words (record { board = b; asks = moves text })
told_words (shorter solution claim) = codes "refused O2 by" ++ spaced_letters solution ++ codes " of" ++ claim_words claim
told_words (refused what claim) = what ++ codes " of" ++ claim_words claim

-- the line without its end, for boards that are to be solved for this goal
abbrev pub told_text : Goal → Told → List ℕ
told_text goal told = told_words told ++ goal_words goal

-- the line
abbrev pub told_line : Goal → Told → List ℕ
told_line goal told = told_text goal told ++ codes "\n"

-- the goal behind the words of a joined bound
abbrev pub joined_goal : Goal → List ℕ
joined_goal First = []
joined_goal Last = codes ", with the blank last"

-- the line that says that lines which were read give a bound of the board, in so many parts
abbrev pub joined_line : Goal → ℕ → ℕ → List ℕ → List ℕ
joined_line goal n count b =
    codes "joined bound " ++ decimal n ++ codes " of" ++ numbers b ++ codes " from " ++ decimal count ++ codes " parts, by lines that were read"
    ++ joined_goal goal ++ codes "\n"

-- ---- what holds of them

-- the claim's moves text, where it has one, has at most 1,000 letters
abbrev pub AreFewLetters : ShownAsks → Type 0
AreFewLetters shortest = ⊤
AreFewLetters (moves text) = length (letters text) ≤ 1000
AreFewLetters (bound n) = ⊤
AreFewLetters (part n p) = ⊤

abbrev pub HasFewLetters : ShownClaim → Type 0
HasFewLetters claim = AreFewLetters claim.asks

-- no LF, whose byte is 10, is in what a claim is refused for; of the other answers nothing is asked
abbrev pub WhatHasNoLf : Told → Type 0
WhatHasNoLf (bounded n b) = ⊤
WhatHasNoLf (part_bounded p n b) = ⊤
WhatHasNoLf (optimal n b text) = ⊤
WhatHasNoLf (shorter solution claim) = ⊤
WhatHasNoLf (refused what claim) = HasNo 10 what

-- how the line begins
abbrev pub beginning : Told → List ℕ
beginning (bounded n b) = codes "bound "
beginning (part_bounded p n b) = codes "part "
beginning (optimal n b text) = codes "optimal "
beginning (shorter solution claim) = codes "refused O2 by"
beginning (refused what claim) = what
