-- What holds of all runs of makers.
use Rattle.std.specs.Prelude.{◌≡◌, ℕ, ◌==◌, not, List, [], ◌∷◌, ◌++◌, codes}
use Rattle.std.specs.List.{AllPass}
use Rattle.puz_goal.specs.declared.goals.Goal.{Goal}
use Rattle.puz_goal.specs.Goals.{SolvesFor, goal_words}
use Rattle.byte_io.specs.Shelf.{Bytes}
use Rattle.pdb_request.specs.Asked.{MakeTableArguments, SolveArguments}
use Rattle.pdb_run.specs.Runs.{Ends, World}
use Rattle.pdb_run.specs.declared.statuses.Status.TheVariants.{Yes}
use Rattle.pdb_keep.specs.Kept.{IsLogKept, IsTableKept}
use Rattle.pdb_keep.specs.MakeTable.{make_table_plan}
use Rattle.pdb_keep.specs.Solve.{letters_of, moves_line, solve_plan}

-- a run of `make-table` that ends with a yes has kept the exact table of its pattern
abbrev pub KeptTablesAreExact : Type 0
KeptTablesAreExact = (arguments : MakeTableArguments) (old new : World) → Ends (make_table_plan arguments) old new Yes → IsTableKept arguments old new

-- a run of `solve` that ends with a yes has kept a log that, with the moves, proves an optimum
abbrev pub KeptLogsProveOptima : Type 0
KeptLogsProveOptima = (arguments : SolveArguments) (old new : World) → Ends (solve_plan arguments) old new Yes → IsLogKept arguments old new

-- ---- the moves that are told

-- letters as the line `moves` has them behind that word: with a space before them, where there are any
abbrev pub told_moves : Bytes → Bytes
told_moves [] = []
told_moves (letter ∷ letters) = 32 ∷ letter ∷ letters

-- the line of letters is that word, what is told behind it, which has no LF, what it ends with for the goal, and the line's end
pub record IsToldSolution (goal : Goal) (b : List ℕ) (moves : Bytes) (n : ℕ) : Type 0 where
  pub line : moves_line goal (letters_of moves) ≡ codes "moves" ++ told_moves (letters_of moves) ++ goal_words goal ++ codes "\n"
  pub one_line : AllPass (λ byte. not (byte == 10)) (told_moves (letters_of moves))
  pub solves : SolvesFor goal b (told_moves (letters_of moves)) n

-- what is told of n moves that solve a board for a goal is a moves text, whose n moves solve it
abbrev pub ToldMovesSolve : Type 0
ToldMovesSolve = (goal : Goal) (b : List ℕ) (moves : Bytes) (n : ℕ) → SolvesFor goal b moves n → IsToldSolution goal b moves n
