-- `solve [--goal first|last] BOARD SETS OUT TABLES..`: moves and a log are made for a board, and the log is kept where both prove an optimum.
--
-- The maker is free: it may find any moves and any log, or give up. What is told of them, whether the log is kept, and why it may
-- give up, is not free.
use Rattle.std.specs.Prelude.{◌≡◌, ◌≢◌, ℕ, Bool, List, [], ◌∷◌, ◌++◌, Option, Some, Ok, Err, codes, map, true}
use Rattle.puz_board.specs.BoardTexts.{Spells, board_of_text}
use Rattle.puz_board.specs.Boards.{side_of}
use Rattle.puz_board.specs.MovesTexts.{moves_of}
use Rattle.puz_board.specs.declared.moves.Move.{Move}
use Rattle.puz_board.specs.declared.moves.Move.TheVariants.{Up, Down, Left, Right}
use Rattle.set_sum.specs.Bundles.{ShownBundle}
use Rattle.log_check.specs.declared.faults.LogRefusal.TheVariants.{L4}
use Rattle.puz_make.specs.Faults.{IsOutOfReach}
use Rattle.puz_goal.specs.declared.goals.Goal.{Goal}
use Rattle.puz_goal.specs.Goals.{goal_words}
use Rattle.puz_goal.specs.Turning.{board_for}
use Rattle.byte_io.specs.Shelf.{Bytes}
use Rattle.pdb_request.specs.Asked.{SolveArguments}
use Rattle.pdb_run.specs.Commands.{Plan, Reply, Wanted, plan_under}
use Rattle.pdb_verdict.specs.Bound.{TakesMemoryForBound}
use Rattle.pdb_verdict.specs.FileBundles.{AreRefused, IsBundleOfFiles}
use Rattle.pdb_verdict.specs.Inputs.{log_files}
use Rattle.pdb_verdict.specs.Limits.{a_table, a_text}
use Rattle.pdb_verdict.specs.Lines.{counted_for, reply_on}
use Rattle.pdb_verdict.specs.Optimal.{IsOptimumResult}
use Rattle.pdb_verdict.specs.Replay.{puzzle_of}
use Rattle.pdb_verdict.specs.declared.verdicts.Fault.{Fault}
use Rattle.pdb_verdict.specs.declared.verdicts.Fault.TheVariants as fault
use Rattle.pdb_keep.specs.GivenUp.{IsSpent, IsTooLong}
use Rattle.pdb_keep.specs.Spared.{IsOfOtherSearch, log_fronts, replaced_unless}

-- ---- before a log is made

-- the table files, folded or full, and the set text make a bundle, whose side is that of the board
pub record AreForBoard (fold : Bool) (board : List ℕ) (sets : Bytes) (tables : List Bytes) : Type 0 where
  pub bundle : ShownBundle
  pub is_bundle : IsBundleOfFiles fold tables sets bundle
  pub one_side : side_of board ≡ bundle.side

-- they do, and over it the board is out of reach
pub record IsOutOfReachOf (fold : Bool) (board : List ℕ) (sets : Bytes) (tables : List Bytes) : Type 0 where
  pub are_for : AreForBoard fold board sets tables
  pub out_of_reach : IsOutOfReach are_for.bundle board

-- they do, and a search over it spends the budget, with this told of the bound that it proves
pub record IsSpentOver (fold : Bool) (budget : ℕ) (board : List ℕ) (sets : Bytes) (tables : List Bytes) (told : Option ℕ) : Type 0 where
  pub are_for : AreForBoard fold board sets tables
  pub spent : IsSpent are_for.bundle board budget told

-- they do, and the log of a search over it may be too long
pub record IsTooLongOver (fold : Bool) (board : List ℕ) (sets : Bytes) (tables : List Bytes) : Type 0 where
  pub are_for : AreForBoard fold board sets tables
  pub too_long : IsTooLong are_for.bundle board

-- the text spells a board for which they do once it is turned for its goal, so that there is something to search over
pub record IsSearchable (goal : Goal) (fold : Bool) (text sets : Bytes) (tables : List Bytes) : Type 0 where
  pub board : List ℕ
  pub spelt : Spells text board
  pub are_for : AreForBoard fold (board_for goal board) sets tables

-- they make a bundle of another side
pub record AreForAnotherSide (fold : Bool) (board : List ℕ) (sets : Bytes) (tables : List Bytes) : Type 0 where
  pub bundle : ShownBundle
  pub is_bundle : IsBundleOfFiles fold tables sets bundle
  pub another_side : side_of board ≢ bundle.side

-- why no log is made for a board: each table file comes first, then the set text, then L4 for a bundle of another side;
-- behind them K2 for a board that is out of reach, K1 where the search spends the budget, and K5 where its log may be too long
abbrev pub IsUnmadeFor : Bool → ℕ → List ℕ → Bytes → List Bytes → Fault → Type 0
IsUnmadeFor fold budget board sets tables (fault.Log L4) = AreForAnotherSide fold board sets tables
IsUnmadeFor fold budget board sets tables (fault.K1 told) = IsSpentOver fold budget board sets tables told
IsUnmadeFor fold budget board sets tables fault.K2 = IsOutOfReachOf fold board sets tables
IsUnmadeFor fold budget board sets tables fault.K5 = IsTooLongOver fold board sets tables
IsUnmadeFor fold budget board sets tables refused = AreRefused fold tables sets refused

-- the text spells a board, for which no log is made once it is turned for its goal
pub record IsUnmadeForText (goal : Goal) (fold : Bool) (budget : ℕ) (text sets : Bytes) (tables : List Bytes) (refused : Fault) : Type 0 where
  pub board : List ℕ
  pub spelt : Spells text board
  pub unmade : IsUnmadeFor fold budget (board_for goal board) sets tables refused

-- why no log is made: the board text comes before all else
abbrev pub IsUnmade : Goal → Bool → ℕ → Bytes → Bytes → List Bytes → Fault → Type 0
IsUnmade goal fold budget text sets tables (fault.Board refused) = board_of_text text ≡ Err refused
IsUnmade goal fold budget text sets tables refused = IsUnmadeForText goal fold budget text sets tables refused

-- ---- a log that is made

-- a search could begin, and its moves, n of them, and its log prove an optimum
pub record IsMade (goal : Goal) (fold : Bool) (text sets : Bytes) (tables : List Bytes) (moves log : Bytes) (n : ℕ) : Type 0 where
  pub could : IsSearchable goal fold text sets tables
  pub is_result : IsOptimumResult (log_files goal fold (puzzle_of text moves) sets log tables) (Ok n)

-- ---- what is told of it

-- the letter of a move
abbrev pub letter_of : Move → ℕ
letter_of Up = 85
letter_of Down = 68
letter_of Left = 76
letter_of Right = 82

-- the letters of the moves of a text
abbrev pub letters_of : Bytes → Bytes
letters_of moves = map letter_of (moves_of moves)

-- letters behind their word: a space stands before them, where there are any
abbrev pub moves_words : Bytes → Bytes
moves_words [] = codes "moves"
moves_words (letter ∷ letters) = codes "moves " ++ (letter ∷ letters)

-- the line of letters for a goal
abbrev pub moves_line : Goal → Bytes → Bytes
moves_line goal letters = moves_words letters ++ goal_words goal ++ codes "\n"

-- the moves come before the line of their number
abbrev pub lines_on : Goal → Bytes → ℕ → Bytes
lines_on goal moves n = moves_line goal (letters_of moves) ++ counted_for goal (codes "optimal ") n

-- what comes of a search: a refusal, or moves, a log, and how many moves they are
pub data SearchOutcome : Type 0 where
  unmade : Fault → SearchOutcome
  searched : Bytes → Bytes → ℕ → SearchOutcome

-- on this board text, this set text and these table files, within the budget
abbrev pub IsSearchOf : Goal → Bool → ℕ → Bytes → Bytes → List Bytes → SearchOutcome → Type 0
IsSearchOf goal fold budget text sets tables (unmade refused) = IsUnmade goal fold budget text sets tables refused
IsSearchOf goal fold budget text sets tables (searched moves log n) = IsMade goal fold text sets tables moves log n

-- the digests of the tables, and of the log where one was made, and then the lines
abbrev pub reply_to_search : Goal → List Bytes → SearchOutcome → Reply
reply_to_search goal tables (unmade refused) = reply_on tables (Err refused)
reply_to_search goal tables (searched moves log n) = record { digested = tables; made = Some log; lines = lines_on goal moves n; is_yes = true }

-- a reply tells what comes of a search
pub record TellsSearch (goal : Goal) (fold : Bool) (budget : ℕ) (text sets : Bytes) (tables : List Bytes) (reply : Reply) : Type 0 where
  pub outcome : SearchOutcome
  pub is_outcome : IsSearchOf goal fold budget text sets tables outcome
  pub told : reply ≡ reply_to_search goal tables outcome

-- ---- the command

-- the board text, the set text and the table files, in this order
abbrev pub solve_inputs : SolveArguments → List Wanted
solve_inputs arguments = a_text (Some arguments.board) ∷ a_text (Some arguments.sets) ∷ map a_table arguments.tables

-- what comes of a search on them is told
abbrev pub IsSolveReply : Goal → Bool → ℕ → List Bytes → Reply → Type 0
IsSolveReply goal fold budget inputs reply =
    (text : Bytes) × (sets : Bytes) × (tables : List Bytes) × (inputs ≡ text ∷ sets ∷ tables) × TellsSearch goal fold budget text sets tables reply

-- it takes memory to check the tables of a board that is spelt, and so to search over them
abbrev pub SolveTakesMemory : List Bytes → Type 0
SolveTakesMemory inputs =
    (text : Bytes) × (sets : Bytes) × (tables : List Bytes) × (inputs ≡ text ∷ sets ∷ tables) × TakesMemoryForBound text tables

-- it makes moves and a log where a search could begin
abbrev pub SolveMakes : Goal → Bool → List Bytes → Type 0
SolveMakes goal fold inputs =
    (text : Bytes) × (sets : Bytes) × (tables : List Bytes) × (inputs ≡ text ∷ sets ∷ tables) × IsSearchable goal fold text sets tables

-- it spares its inputs and all but logs of its board, unless it is asked to replace any file; for any number of workers
abbrev pub solve_plan : SolveArguments → Plan
solve_plan arguments =
    plan_under (Some arguments.out) (replaced_unless arguments.replace log_fronts) (IsOfOtherSearch arguments.replace arguments.goal)
    (solve_inputs arguments) (IsSolveReply arguments.goal arguments.fold arguments.budget) SolveTakesMemory (SolveMakes arguments.goal arguments.fold)
