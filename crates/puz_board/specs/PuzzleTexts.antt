-- Puzzle texts: a board text, one `;` and a moves text. The byte of `;` is 59.
use Rattle.std.specs.Prelude.{◌≡◌, ℕ, ◌+◌, ◌==◌, not, List, ◌∷◌, ◌++◌, take, drop, position, Option, option_map}
use Rattle.std.specs.List.{AllPass}

-- no byte of the text is a `;`
abbrev pub HasNoSemicolon : List ℕ → Type 0
HasNoSemicolon text = AllPass (λ b. not (b == 59)) text

-- the puzzle text has these two parts: it is the board's text, a `;` and the moves' text, and this `;` is its first
pub record IsPuzzle (text board moves : List ℕ) : Type 0 where
  pub whole : text ≡ board ++ 59 ∷ moves
  pub first : HasNoSemicolon board

-- what stands before the first `;` and what stands after it; none where there is no `;`
unfoldable pub puzzle_parts : List ℕ → Option (List ℕ × List ℕ)
puzzle_parts text = option_map (λ i. (take i text, drop (i + 1) text)) (position (λ b. b == 59) text)
