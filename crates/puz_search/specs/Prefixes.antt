-- How far the letters that tell a part have been read, and the counts of boards behind them.
use Rattle.std.specs.Prelude.{◌≡◌, ◌≢◌, ℕ, zero, suc, ◌+◌, ◌*◌, ◌%◌, List, Option, None, Some}
use Rattle.puz_board.specs.declared.moves.Move.{Move}
use Rattle.move_strings.specs.BoundParts.{ShownPart, letters_of}
use Rattle.move_strings.specs.Strings.{rank_of}
use Rattle.puz_search.specs.Guides.{ShownGuide}
use Rattle.puz_search.specs.Searches.{InTurn, PartFails, PartHas}
use Rattle.puz_search.specs.declared.prefixes.Prefix.{Prefix}

-- ---- after a move

-- how many letters are to come then
abbrev pub next_ahead : ℕ → ℕ
next_ahead zero = 0
next_ahead (suc ahead) = ahead

-- and the rank of those that have been read
abbrev pub next_rank : ℕ → ℕ → Move → ℕ
next_rank zero rank move = rank
next_rank (suc ahead) rank move = 4 * rank + rank_of move

-- ---- whether the board is of the part

-- no letter is to come, and they aren't of the part
abbrev pub IsOutside : ShownPart → ℕ → ℕ → Type 0
IsOutside p ahead rank = (ahead ≡ 0) × (rank % p.count ≢ p.index)

-- where no letter is to come, they are of the part
abbrev pub IsInside : ShownPart → ℕ → ℕ → Type 0
IsInside p ahead rank = ahead ≡ 0 → rank % p.count ≡ p.index

-- ---- prefixes

-- the part whose letters are read
abbrev pub part_of : Prefix → ShownPart
part_of x = record { index = x.index; count = x.count }

-- no letter is to come, and they are of the part
abbrev pub IsRead : Prefix → Type 0
IsRead x = (x.ahead ≡ 0) × (x.rank % x.count ≡ x.index)

-- none of the letters that tell the part has been read; or the moves are all
abbrev pub IsPrefixOf : Prefix → Option ShownPart → Type 0
IsPrefixOf x None = IsRead x
IsPrefixOf x (Some p) = (part_of x ≡ p) × (x.ahead ≡ letters_of p) × (x.rank ≡ 0)

-- ---- counts of boards

-- of all boards of a search that fails, or of some that a search has at least
pub data Count : Type 0 where
  in_all : Count
  at_least : Count

-- what holds of the counts of the search from a board, behind letters of this rank that tell a part: it fails and expands so many
-- boards in all, or it has so many at least
abbrev pub counted : ShownGuide → ShownPart → ℕ → ℕ → ℕ → List ℕ → ℕ → Count → ℕ → Type 0
counted g p ahead rank r b state in_all boards = PartFails g p ahead rank r b state boards
counted g p ahead rank r b state at_least boards = PartHas g p ahead rank r b state boards

-- behind the letters of a prefix
abbrev pub prefix_counts : ShownGuide → Prefix → ℕ → List ℕ → ℕ → Count → ℕ → Type 0
prefix_counts g x r b state count boards = counted g (part_of x) x.ahead x.rank r b state count boards

-- all moves are those of the only part, of which no letter is to come
abbrev pub only_part : ShownPart
only_part = record { index = 0; count = 1 }

-- of one part of a search, and then of the other
abbrev pub both_counts : (Count → ℕ → Type 0) → (Count → ℕ → Type 0) → Count → ℕ → Type 0
both_counts One Other count boards = InTurn (One count) (Other count) boards
