-- Depth-first searches below a threshold, when they fail (Korf 1985), and how many boards they have.
use Rattle.std.specs.Prelude.{◌≡◌, ◌==◌, ℕ, zero, suc, ◌+◌, ◌*◌, ◌%◌, Bool, true, false, ◌⊎◌, List, Option, Some, None}
use Rattle.puz_board.specs.Boards.{IsGoal, moved}
use Rattle.puz_board.specs.Parity.{blank_parity}
use Rattle.puz_board.specs.declared.moves.Move.{Move}
use Rattle.puz_board.specs.declared.moves.Move.TheVariants.{Up, Down, Left, Right}
use Rattle.move_strings.specs.Automata.{left_out, next_at}
use Rattle.move_strings.specs.BoundParts.{ShownPart, letters_of}
use Rattle.move_strings.specs.Strings.{rank_of}
use Rattle.puz_walk.specs.Walks.{IsCutOff}
use Rattle.puz_search.specs.Guides.{ShownGuide}

-- ---- the moves of a board

-- whether the automaton with these steps leaves out the one of the move from a state
abbrev pub leaves_out : List ℕ → ℕ → Move → Bool
leaves_out steps state move = next_at steps state move == left_out

-- ---- searches

-- a count of boards at the place of a move: where the move leads to a board and isn't left out, this holds of that board and the
-- count; otherwise the count is 0
abbrev pub AtChild : Option (List ℕ) → Bool → (List ℕ → ℕ → Type 0) → ℕ → Type 0
AtChild None out Holds count = count ≡ 0
AtChild (Some b) true Holds count = count ≡ 0
AtChild (Some b) false Holds count = Holds b count

-- one part of a count, and the rest of it
abbrev pub InTurn : (ℕ → Type 0) → (ℕ → Type 0) → ℕ → Type 0
InTurn First Rest count = (first : ℕ) × (rest : ℕ) × First first × Rest rest × (count ≡ first + rest)

-- at the places of all moves, in their order
abbrev pub AtChildren : List ℕ → ℕ → List ℕ → (Move → List ℕ → ℕ → Type 0) → ℕ → Type 0
AtChildren steps state b Holds =
    InTurn (AtChild (moved b Up) (leaves_out steps state Up) (Holds Up))
    (InTurn (AtChild (moved b Down) (leaves_out steps state Down) (Holds Down))
    (InTurn (AtChild (moved b Left) (leaves_out steps state Left) (Holds Left))
    (AtChild (moved b Right) (leaves_out steps state Right) (Holds Right))))

module _ (g : ShownGuide) where
  -- A search for a solution of fewer than r moves, where r isn't 0, expands a board that was reached in a state of the automaton: no
  -- set cuts the board off, and it isn't the goal board. It counts, and so do the boards that are counted after its moves.
  abbrev pub IsExpanded : ℕ → List ℕ → ℕ → (Move → List ℕ → ℕ → Type 0) → ℕ → Type 0
  IsExpanded r b state After boards =
      (¬ IsCutOff g.bundle b r) × (¬ IsGoal b) × (below : ℕ) × (boards ≡ below + 1) × AtChildren g.steps state b After below

  -- The search from the board fails, and expands so many boards: none where a set cuts the board off, and otherwise this board and
  -- those that the searches after its moves expand, which fail too.
  abbrev pub FailsAfter : ℕ → List ℕ → ℕ → (Move → List ℕ → ℕ → Type 0) → ℕ → Type 0
  FailsAfter r b state After boards = (IsCutOff g.bundle b r × (boards ≡ 0)) ⊎ IsExpanded r b state After boards

  -- the search of all moves; it expands none where r is 0
  abbrev pub Fails : ℕ → List ℕ → ℕ → ℕ → Type 0
  Fails zero b state boards = boards ≡ 0
  Fails (suc r) b state boards = FailsAfter (suc r) b state (λ move next. Fails r next (next_at g.steps state move)) boards

  -- The search from the board has at least so many boards to expand, whether it fails or finds a solution: none are counted, or this
  -- board and some after its moves.
  abbrev pub HasAfter : ℕ → List ℕ → ℕ → (Move → List ℕ → ℕ → Type 0) → ℕ → Type 0
  HasAfter r b state After boards = (boards ≡ 0) ⊎ IsExpanded r b state After boards

  -- the search of all moves; it has none where r is 0
  abbrev pub HasBoards : ℕ → List ℕ → ℕ → ℕ → Type 0
  HasBoards zero b state boards = boards ≡ 0
  HasBoards (suc r) b state boards = HasAfter (suc r) b state (λ move next. HasBoards r next (next_at g.steps state move)) boards

-- ---- the search of a part

-- where it is so, this holds of the count; otherwise the count is 0
abbrev pub WhereTrue : Bool → (ℕ → Type 0) → ℕ → Type 0
WhereTrue true Holds count = Holds count
WhereTrue false Holds count = count ≡ 0

module _ (g : ShownGuide) (p : ShownPart) where
  -- The same of the moves of a part. So many letters that tell the part are still to come, and this is the rank of those before.
  -- Behind the last of them the search is that of all moves where they are of the part, and expands no board elsewhere.
  abbrev pub PartFails : ℕ → ℕ → ℕ → List ℕ → ℕ → ℕ → Type 0
  PartFails zero rank r b state boards = WhereTrue (rank % p.count == p.index) (Fails g r b state) boards
  PartFails (suc ahead) rank zero b state boards = boards ≡ 0
  PartFails (suc ahead) rank (suc r) b state boards =
      FailsAfter g (suc r) b state (λ move next. PartFails ahead (4 * rank + rank_of move) r next (next_at g.steps state move)) boards

  -- it has at least so many boards
  abbrev pub PartHas : ℕ → ℕ → ℕ → List ℕ → ℕ → ℕ → Type 0
  PartHas zero rank r b state boards = WhereTrue (rank % p.count == p.index) (HasBoards g r b state) boards
  PartHas (suc ahead) rank zero b state boards = boards ≡ 0
  PartHas (suc ahead) rank (suc r) b state boards =
      HasAfter g (suc r) b state (λ move next. PartHas ahead (4 * rank + rank_of move) r next (next_at g.steps state move)) boards

-- the search of a part for a solution of a board of fewer than r moves fails, and expands so many boards
abbrev pub SearchOfPartFails : ShownGuide → ShownPart → ℕ → List ℕ → ℕ → Type 0
SearchOfPartFails g p r b boards = PartFails g p (letters_of p) 0 r b 0 boards

-- it has at least so many boards
abbrev pub SearchOfPartHas : ShownGuide → ShownPart → ℕ → List ℕ → ℕ → Type 0
SearchOfPartHas g p r b boards = PartHas g p (letters_of p) 0 r b 0 boards

-- ---- of a bound, or of a part of one where it is said

-- the search for a solution of fewer than r moves fails, and expands so many boards
abbrev pub SearchFails : ShownGuide → Option ShownPart → ℕ → List ℕ → ℕ → Type 0
SearchFails g None r b boards = Fails g r b 0 boards
SearchFails g (Some p) r b boards = SearchOfPartFails g p r b boards

-- it has at least so many boards
abbrev pub SearchHas : ShownGuide → Option ShownPart → ℕ → List ℕ → ℕ → Type 0
SearchHas g None r b boards = HasBoards g r b 0 boards
SearchHas g (Some p) r b boards = SearchOfPartHas g p r b boards

-- ---- thresholds

-- The searches below the first k thresholds of a board fail, and expand so many boards in all. Each begins in the first state of
-- the automaton. The first threshold is one more than the parity of the blank's cell, which is that of all solutions, and each next
-- one two more.
abbrev pub FailsInTurn : ShownGuide → Option ShownPart → List ℕ → ℕ → ℕ → Type 0
FailsInTurn g p b zero boards = boards ≡ 0
FailsInTurn g p b (suc k) boards = InTurn (FailsInTurn g p b k) (SearchFails g p (blank_parity b + 2 * k + 1) b) boards
