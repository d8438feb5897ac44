-- Which files what is made takes the place of, unless it may take that of any: all others are spared.
use Rattle.std.specs.Prelude.{◌≡◌, ◌≤◌, ℕ, Bool, true, false, List, [], ◌∷◌, ◌++◌, Option, Some, None, codes, count_ones, length}
use Rattle.std.specs.Int.{to_be_bytes, w32}
use Rattle.puz_board.specs.BoardTexts.{Spells}
use Rattle.puz_goal.specs.Turning.{board_for}
use Rattle.puz_goal.specs.declared.goals.Goal.{Goal}
use Rattle.log_file.specs.LogFiles.{IsLogFile, most_log_bytes}
use Rattle.log_file.specs.Logs.{Lemma, Log}
use Rattle.log_check.specs.GoodLogs.{IsLast}
use Rattle.byte_io.specs.Shelf.{Bytes}

-- the first twelve bytes of a table of this mask on boards of this side
abbrev pub table_front : ℕ → ℕ → Bytes
table_front side mask = codes "PDBT" ++ 1 ∷ side ∷ count_ones mask ∷ 0 ∷ to_be_bytes w32 mask

-- the first five of a log, of each version
abbrev pub log_fronts : List Bytes
log_fronts = (codes "PDBL" ++ 1 ∷ []) ∷ (codes "PDBL" ++ 2 ∷ []) ∷ []

-- how the files begin that are replaced, where any may be, or these alone
abbrev pub replaced_unless : Bool → List Bytes → Option (List Bytes)
replaced_unless true fronts = None
replaced_unless false fronts = Some fronts

-- the last of these lemmas is of this board
pub record EndsWith (lemmas : List Lemma) (b : List ℕ) : Type 0 where
  pub last : Lemma
  pub is_last : IsLast lemmas last
  pub board : last.board ≡ b

-- the bytes are a log's, no more than a log may have, and its last lemma is of this board
pub record IsLogOf (b : List ℕ) (file : Bytes) : Type 0 where
  pub log : Log
  pub is_file : IsLogFile log file
  pub fits : length file ≤ most_log_bytes
  pub ends : EndsWith log.lemmas b

-- unless any file may be replaced, the first input spells a board, and turned for its goal it is this one
pub record IsSearched (replace : Bool) (goal : Goal) (inputs : List Bytes) (searched : List ℕ) : Type 0 where
  pub asked : replace ≡ false
  pub text : Bytes
  pub others : List Bytes
  pub order : inputs ≡ text ∷ others
  pub board : List ℕ
  pub spelt : Spells text board
  pub turned : searched ≡ board_for goal board

-- the bytes are no log of the board that is searched
abbrev pub IsOfOtherSearch : Bool → Goal → List Bytes → Bytes → Type 0
IsOfOtherSearch replace goal inputs file = (board : List ℕ) × IsSearched replace goal inputs board × ¬ IsLogOf board file
