-- Strings of moves, and which of them no search need try (Taylor and Korf 1993).
use Rattle.std.specs.Prelude.{◌≡◌, ℕ, ◌<◌, ◌⊎◌, List, [], ◌∷◌, ◌++◌, length, Some}
use Rattle.puz_board.specs.Boards.{IsBoardOf}
use Rattle.puz_board.specs.Cells.{reverse_of}
use Rattle.puz_board.specs.Paths.{board_after}
use Rattle.puz_board.specs.declared.moves.Move.{Move}
use Rattle.puz_board.specs.declared.moves.Move.TheVariants.{Up, Down, Left, Right}

-- ---- the effect of a string

-- on each board of side n on which the string can be made the witness can be made too, and the board after it is the same
abbrev pub HasSameEffect : ℕ → List Move → List Move → Type 0
HasSameEffect n string witness =
    (b end : List ℕ) → IsBoardOf n b → board_after b string ≡ Some end → board_after b witness ≡ Some end

-- ---- the order of strings: by length, and then by letters

-- the letters in their order
abbrev pub rank_of : Move → ℕ
rank_of Up = 0
rank_of Down = 1
rank_of Left = 2
rank_of Right = 3

-- as long, and earlier at the first place where they differ
abbrev pub IsEarlier : List Move → List Move → Type 0
IsEarlier [] second = ⊥
IsEarlier (l ∷ ls) [] = ⊥
IsEarlier (l ∷ ls) (m ∷ ms) = ((rank_of l < rank_of m) × (length ls ≡ length ms)) ⊎ ((l ≡ m) × IsEarlier ls ms)

-- shorter, or as long and earlier
abbrev pub ComesBefore : List Move → List Move → Type 0
ComesBefore first second = (length first < length second) ⊎ IsEarlier first second

-- ---- forbidden strings

-- the witness comes before the string, and has the same effect wherever the string can be made
pub record IsWitness (n : ℕ) (string witness : List Move) : Type 0 where
  pub before : ComesBefore witness string
  pub same : HasSameEffect n string witness

-- the string has a witness
pub record IsForbidden (n : ℕ) (string : List Move) : Type 0 where
  pub witness : List Move
  pub is : IsWitness n string witness

-- the moves have the string in them, from one move to the next
pub record HasString (moves string : List Move) : Type 0 where
  pub front : List Move
  pub rest : List Move
  pub whole : moves ≡ front ++ (string ++ rest)

-- the moves have a string in them that is forbidden on side n
pub record HasForbidden (n : ℕ) (moves : List Move) : Type 0 where
  pub string : List Move
  pub forbidden : IsForbidden n string
  pub has : HasString moves string

-- somewhere the moves take one of them straight back
abbrev pub HasReversal : List Move → Type 0
HasReversal moves = (move : Move) × HasString moves (move ∷ reverse_of move ∷ [])
