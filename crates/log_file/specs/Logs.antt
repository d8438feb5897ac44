-- Logs of lemmas. A lemma is a board, a bound, and the bytes of a tree: it claims that no solution of the board has fewer
-- moves than the bound, and its tree is to prove that.
use Rattle.std.specs.Prelude.{◌≡◌, ◌⊎◌, ℕ, ◌≤◌, ◌^◌, List, length}
use Rattle.std.specs.List.{AllByRecursion}
use Rattle.puz_board.specs.Boards.{IsBoardOf}

-- what a contract sees of a lemma: its board, its bound and the bytes of its tree
pub record Lemma : Type 0 where
  pub board : List ℕ
  pub bound : ℕ
  pub tree : List ℕ

-- what a contract sees of a log: the version of its format, the side of its boards, and its lemmas in their order, which are
-- numbered from 0
pub record Log : Type 0 where
  pub version : ℕ
  pub side : ℕ
  pub lemmas : List Lemma

-- the versions of the format
abbrev pub IsVersion : ℕ → Type 0
IsVersion version = (version ≡ 1) ⊎ (version ≡ 2)

-- a log has at most so many lemmas
abbrev pub most_lemmas : ℕ
most_lemmas = 2 ^ 20

-- a side from 2 to 5, and 1 to 1,048,576 lemmas
pub record IsSize (side count : ℕ) : Type 0 where
  pub low : 2 ≤ side
  pub high : side ≤ 5
  pub some : 1 ≤ count
  pub few : count ≤ most_lemmas

-- a log of a version and of that size, each board of which has its side
pub record IsLog (log : Log) : Type 0 where
  pub version : IsVersion log.version
  pub size : IsSize log.side (length log.lemmas)
  pub boards : AllByRecursion (λ lemma. IsBoardOf log.side lemma.board) log.lemmas
