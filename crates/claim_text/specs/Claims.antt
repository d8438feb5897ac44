-- Claims on the solutions of a board, and the line of a claim. The bytes of `;` and `:` are 59 and 58.
use Rattle.std.specs.Prelude.{◌≡◌, ℕ, ◌≤◌, ◌==◌, ◌||◌, not, codes, decimal, filter, length, List, [], ◌∷◌, ◌++◌}
use Rattle.std.specs.List.{AllPass}
use Rattle.puz_board.specs.BoardTexts.{Spells, is_separator, parts}
use Rattle.puz_board.specs.MovesTexts.{is_letter}
use Rattle.move_strings.specs.BoundParts.{IsPart, ShownPart}

-- ---- what a contract sees of a claim

-- what a claim asks or says: a shortest solution is asked for; the moves of this moves text are one; no solution has fewer moves
-- than this bound; or this part of this bound holds
pub data ShownAsks : Type 0 where
  shortest : ShownAsks
  moves : List ℕ → ShownAsks
  bound : ℕ → ShownAsks
  part : ℕ → ShownPart → ShownAsks

-- the board, and what is asked or said of it
pub record ShownClaim : Type 0 where
  pub board : List ℕ
  pub asks : ShownAsks

-- ---- the parts of a line

-- the letters of a text, in their order, without what stands between them
abbrev pub letters : List ℕ → List ℕ
letters text = filter is_letter text

-- letters and separators alone, and 1,000 letters at most
pub record IsMovesText (text : List ℕ) : Type 0 where
  pub alone : AllPass (λ byte. is_letter byte || is_separator byte) text
  pub few : length (letters text) ≤ 1000

-- between separators the text has one number, from 0 to 255, in decimal without a superfluous leading zero
pub record SpellsBound (text : List ℕ) (n : ℕ) : Type 0 where
  pub numeral : parts text ≡ decimal n ∷ []
  pub small : n ≤ 255

-- a part in words: "3/63"
abbrev pub part_words : ShownPart → List ℕ
part_words p = decimal p.index ++ codes "/" ++ decimal p.count

-- between separators the text has such a number, the word `part`, and a part in words
pub record SpellsPart (text : List ℕ) (n : ℕ) (p : ShownPart) : Type 0 where
  pub words : parts text ≡ decimal n ∷ codes "part" ∷ part_words p ∷ []
  pub small : n ≤ 255
  pub is : IsPart p

-- behind the `:` of a claim the text says this: a bound, or a part of one
abbrev pub SpellsAsks : List ℕ → ShownAsks → Type 0
SpellsAsks text shortest = ⊥
SpellsAsks text (moves letters) = ⊥
SpellsAsks text (bound n) = SpellsBound text n
SpellsAsks text (part n p) = SpellsPart text n p

-- no byte of the text is this one
abbrev pub HasNo : ℕ → List ℕ → Type 0
HasNo byte text = AllPass (λ b. not (b == byte)) text

-- the text has these two parts, with its first such byte between them
pub record IsCutAt (byte : ℕ) (text before behind : List ℕ) : Type 0 where
  pub whole : text ≡ before ++ byte ∷ behind
  pub first : HasNo byte before

-- ---- the lines of claims

-- BOARD
pub record IsShortestClaim (line b : List ℕ) : Type 0 where
  pub no_semicolon : HasNo 59 line
  pub no_colon : HasNo 58 line
  pub board : Spells line b

-- BOARD ; MOVES, where this `;` is the line's first
pub record IsMovesClaim (line b text : List ℕ) : Type 0 where
  pub before : List ℕ
  pub whole : IsCutAt 59 line before text
  pub board : Spells before b
  pub moves : IsMovesText text

-- BOARD : N, or BOARD : N part I/K, where this `:` is the line's first
pub record IsColonClaim (line b : List ℕ) (asks : ShownAsks) : Type 0 where
  pub no_semicolon : HasNo 59 line
  pub before : List ℕ
  pub behind : List ℕ
  pub whole : IsCutAt 58 line before behind
  pub board : Spells before b
  pub spelt : SpellsAsks behind asks

-- the line asks or says this of the board
abbrev pub IsClaimOf : List ℕ → List ℕ → ShownAsks → Type 0
IsClaimOf line b shortest = IsShortestClaim line b
IsClaimOf line b (moves text) = IsMovesClaim line b text
IsClaimOf line b (bound n) = IsColonClaim line b (bound n)
IsClaimOf line b (part n p) = IsColonClaim line b (part n p)

-- the line is this claim
abbrev pub IsClaim : List ℕ → ShownClaim → Type 0
IsClaim line claim = IsClaimOf line claim.board claim.asks

-- the line is no claim of any kind
abbrev pub IsNoClaim : List ℕ → Type 0
IsNoClaim line = (claim : ShownClaim) → ¬ IsClaim line claim
