-- Texts of claims: a claim a line, with remarks between them. The bytes of LF and `#` are 10 and 35. Lines are counted from 0.
use Rattle.std.specs.Prelude.{◌≡◌, ◌≢◌, ℕ, ◌<◌, ◌≤◌, ◌^◌, ◌==◌, ◌⊎◌, ◌||◌, not, Bool, true, false, if◌then◌else◌, filter, length, slice_index, List, [], ◌∷◌}
use Rattle.std.specs.List.{AllZip, list_all, onto_first, slice_index_or}
use Rattle.puz_board.specs.Boards.{side_of}
use Rattle.puz_board.specs.BoardTexts.{is_separator}
use Rattle.claim_text.specs.Claims.{IsClaim, IsNoClaim, ShownClaim}

-- the lines of a text, without their LFs: an LF ends a line, and any other byte stands at the front of the first line of what
-- follows it, or is a line of its own at the end of the text; behind a last LF there is no line
abbrev pub lines_of : List ℕ → List (List ℕ)
lines_of [] = []
lines_of (x ∷ text) = if x == 10 then [] ∷ lines_of text else onto_first x (lines_of text)

-- the line with this number; the empty line where the text has none
abbrev pub line_at : List ℕ → ℕ → List ℕ
line_at text number = slice_index_or (lines_of text) number []

-- a remark has separators alone, if anything, or begins with `#`
unfoldable pub is_remark : List ℕ → Bool
is_remark line = list_all is_separator line || slice_index line 0 == 35

-- the lines without the remarks
abbrev pub claims_among : List (List ℕ) → List (List ℕ)
claims_among lines = filter (λ line. not (is_remark line)) lines

-- the lines of a text that are to be claims
abbrev pub claim_lines : List ℕ → List (List ℕ)
claim_lines text = claims_among (lines_of text)

-- a text has at most so many lines, remarks among them
abbrev pub most_lines : ℕ
most_lines = 2 ^ 20

-- the lines of the text that are no remarks are these claims, one at least
pub record AreClaims (text : List ℕ) (claims : List ShownClaim) : Type 0 where
  pub lines : AllZip IsClaim (claim_lines text) claims
  pub some : 1 ≤ length claims
  pub few : length (lines_of text) ≤ most_lines

-- the line is some claim
abbrev pub SaysClaim : List ℕ → Type 0
SaysClaim line = (claim : ShownClaim) × IsClaim line claim

-- ---- Q1

-- the line with this number is there, and it is no claim and no remark, or there is no room for it
pub record IsBadLine (text : List ℕ) (number : ℕ) : Type 0 where
  pub there : number < length (lines_of text)
  pub bad : IsNoClaim (line_at text number) × (is_remark (line_at text number) ≡ false) ⊎ (number ≡ most_lines)

-- the text has so many lines, and all are remarks
pub record HasRemarksAlone (text : List ℕ) (number : ℕ) : Type 0 where
  pub none : claim_lines text ≡ []
  pub all : number ≡ length (lines_of text)

-- the line with this number is the first that is neither a claim nor a remark, or for which there is no room; or no line is a
-- claim, and this is the number behind the last
pub record IsFirstNoClaim (text : List ℕ) (number : ℕ) : Type 0 where
  pub before : (i : ℕ) → i < number → SaysClaim (line_at text i) ⊎ (is_remark (line_at text i) ≡ true)
  pub room : number ≤ most_lines
  pub none : IsBadLine text number ⊎ HasRemarksAlone text number

-- ---- Q2

-- the line with this number is the first that is a claim on a board which hasn't this side
pub record IsFirstOfAnotherSide (text : List ℕ) (side number : ℕ) : Type 0 where
  pub claim : ShownClaim
  pub is : IsClaim (line_at text number) claim
  pub another : side_of claim.board ≢ side
  pub before : (i : ℕ) (claim : ShownClaim) → i < number → IsClaim (line_at text i) claim → side_of claim.board ≡ side
