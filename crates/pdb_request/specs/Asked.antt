-- What words ask for, as bytes and numbers.
use Rattle.std.specs.Borrow.{Bor}
use Rattle.std.specs.Prelude.{◌≡◌, ⊤, ℕ, ◌%◌, ◌≤◌, Bool, IfSome, List, [], ◌∷◌, Option, map, option_map}
use Rattle.puz_goal.specs.declared.goals.Goal.{Goal}
use Rattle.puz_goal.specs.declared.goals.Goal.TheVariants.{First}
use Rattle.pdb_request.specs.declared.requests.LogClaim.{LogClaim}
use Rattle.pdb_request.specs.declared.requests.LogClaim.TheVariants as claim
use Rattle.pdb_request.specs.declared.requests.LogCheck.{LogCheck}
use Rattle.pdb_request.specs.declared.requests.MakeTable.{MakeTable}
use Rattle.pdb_request.specs.declared.requests.JoinParts.{JoinParts}
use Rattle.pdb_request.specs.declared.requests.Prove.{Prove}
use Rattle.pdb_request.specs.declared.requests.Replay.{Replay}
use Rattle.pdb_request.specs.declared.requests.Request.{Request}
use Rattle.pdb_request.specs.declared.requests.Request.TheVariants as request
use Rattle.pdb_request.specs.declared.requests.Solve.{Solve}
use Rattle.pdb_request.specs.declared.requests.TableCheck.{TableCheck}

-- ---- the arguments of commands

-- `replay`
pub record ReplayArguments : Type 0 where
  -- the name of the puzzle text, or none for standard input
  pub puzzle : Option (List ℕ)
  -- where the blank is at home
  pub goal : Goal

-- `table`
pub record TableArguments : Type 0 where
  -- the name of the table file
  pub file : List ℕ
  -- how many workers check it
  pub workers : ℕ

-- `bound` and `optimal`
pub record LogArguments : Type 0 where
  -- the names of the text, which is a board text for a bound and a puzzle text for an optimum, of the sets and of the log
  pub text : List ℕ
  pub sets : List ℕ
  pub log : List ℕ
  -- those of the tables, in order
  pub tables : List (List ℕ)
  -- how many workers check the tables and the log
  pub workers : ℕ
  -- whether each table is folded once it is checked
  pub fold : Bool
  -- where the blank is at home
  pub goal : Goal

-- `make-table`
pub record MakeTableArguments : Type 0 where
  -- the side and the tile mask of the pattern
  pub side : ℕ
  pub mask : ℕ
  -- the name under which the table is kept
  pub out : List ℕ
  -- whether it may take the place of any file
  pub replace : Bool
  -- how many workers check it
  pub workers : ℕ

-- `solve`
pub record SolveArguments : Type 0 where
  -- the names of the board text, of the sets, and that under which the log is kept
  pub board : List ℕ
  pub sets : List ℕ
  pub out : List ℕ
  -- whether it may take the place of any file, be it one that is read
  pub replace : Bool
  -- those of the tables, in order
  pub tables : List (List ℕ)
  -- how many workers check the tables and the log
  pub workers : ℕ
  -- whether each table is folded once it is checked
  pub fold : Bool
  -- where the blank is at home
  pub goal : Goal
  -- how many boards may be expanded
  pub budget : ℕ

-- `prove`
pub record ProveArguments : Type 0 where
  -- the name of the claims, or none for standard input
  pub claims : Option (List ℕ)
  -- the name of the sets
  pub sets : List ℕ
  -- those of the tables, in order
  pub tables : List (List ℕ)
  -- how many workers check the tables and search
  pub workers : ℕ
  -- whether each table is folded once it is checked
  pub fold : Bool
  -- where the blank is at home
  pub goal : Goal
  -- how many boards may be expanded for a claim, or none for as many as it takes
  pub budget : Option ℕ

-- `parts`
pub record PartsArguments : Type 0 where
  -- the name of the board text, or none for standard input
  pub board : Option (List ℕ)
  -- how many moves each solution is to have at least, and how many parts that bound has
  pub bound : ℕ
  pub count : ℕ
  -- the names of the files of answer lines
  pub answers : List (List ℕ)
  -- where the blank is at home
  pub goal : Goal

-- what words ask for: a command with its arguments
pub data Asked : Type 0 where
  -- whether the moves of a puzzle text solve its board
  replay : ReplayArguments → Asked
  -- whether a table file is exact
  table : TableArguments → Asked
  -- whether a log proves a bound of the board of a board text, or the moves of a puzzle text to be an optimum
  bound optimal : LogArguments → Asked
  -- the table of a pattern, kept under a name
  make_table : MakeTableArguments → Asked
  -- a shortest solution of a board, and the log that proves it, kept under a name
  solve : SolveArguments → Asked
  -- bounds and optima of the boards of claims, by a search and without a log
  prove : ProveArguments → Asked
  -- a bound of a board, from lines that say that its parts hold
  parts : PartsArguments → Asked

-- ---- the same of the code's requests

-- the names of files, as their bytes
abbrev pub file_names : List (Bor (List ℕ)) → List (List ℕ)
file_names names = map (λ name. name.now) names

abbrev pub replay_shown : Replay → ReplayArguments
replay_shown command = record { puzzle = option_map (λ s. s.now) command.puzzle; goal = command.goal }

abbrev pub table_check_shown : TableCheck → TableArguments
table_check_shown check = record { file = check.file.now; workers = check.workers }

abbrev pub log_check_shown : LogCheck (Bor (List ℕ)) → LogArguments
log_check_shown check = record {
  text = check.text.now;
  sets = check.sets.now;
  log = check.log.now;
  tables = file_names check.tables.items;
  workers = check.workers;
  fold = check.fold;
  goal = check.goal;
}

abbrev pub make_table_shown : MakeTable → MakeTableArguments
make_table_shown command = record {
  side = command.side;
  mask = command.mask;
  out = command.out.now;
  replace = command.replace;
  workers = command.workers;
}

abbrev pub solve_shown : Solve (Bor (List ℕ)) → SolveArguments
solve_shown search = record {
  board = search.board.now;
  sets = search.sets.now;
  out = search.out.now;
  replace = search.replace;
  tables = file_names search.tables.items;
  workers = search.workers;
  fold = search.fold;
  goal = search.goal;
  budget = search.budget;
}

abbrev pub prove_shown : Prove (Option (Bor (List ℕ))) (Bor (List ℕ)) → ProveArguments
prove_shown command = record {
  claims = option_map (λ s. s.now) command.claims;
  sets = command.sets.now;
  tables = file_names command.tables.items;
  workers = command.workers;
  fold = command.fold;
  goal = command.goal;
  budget = command.budget;
}

abbrev pub parts_shown : JoinParts (Option (Bor (List ℕ))) (Bor (List ℕ)) → PartsArguments
parts_shown command = record {
  board = option_map (λ s. s.now) command.board;
  bound = command.bound;
  count = command.count;
  answers = file_names command.answers.items;
  goal = command.goal;
}

-- what is claimed of a log makes the command
abbrev pub claimed : LogClaim → LogArguments → Asked
claimed claim.Bound = bound
claimed claim.Optimum = optimal

-- a request, as its bytes
abbrev pub request_shown : Request → Asked
request_shown (request.Replay command) = replay (replay_shown command)
request_shown (request.TableCheck check) = table (table_check_shown check)
request_shown (request.LogCheck check) = claimed check.claim (log_check_shown check)
request_shown (request.MakeTable command) = make_table (make_table_shown command)
request_shown (request.Solve search) = solve (solve_shown search)
request_shown (request.Prove command) = prove (prove_shown command)
request_shown (request.JoinParts command) = parts (parts_shown command)

-- the table files that words name, in the order of their numbers
abbrev pub named_tables : Asked → List (List ℕ)
named_tables (table arguments) = arguments.file ∷ []
named_tables (bound arguments) = arguments.tables
named_tables (optimal arguments) = arguments.tables
named_tables (solve arguments) = arguments.tables
named_tables (prove arguments) = arguments.tables
named_tables other = []

-- where the blank is at home; in the first cell where no board is read
abbrev pub goal_asked : Asked → Goal
goal_asked (replay arguments) = arguments.goal
goal_asked (bound arguments) = arguments.goal
goal_asked (optimal arguments) = arguments.goal
goal_asked (solve arguments) = arguments.goal
goal_asked (prove arguments) = arguments.goal
goal_asked (parts arguments) = arguments.goal
goal_asked other = First

-- ---- which numbers a request can have

-- a search may be let expand so many boards at most
abbrev pub most_budget : ℕ
most_budget = 1000000000000

-- a search may be let expand so many boards
abbrev pub IsBudget : ℕ → Type 0
IsBudget count = (1 ≤ count) × (count ≤ most_budget)

-- a search for a log has a budget, and one without a log has one where any is asked for
abbrev pub HasBudget : Request → Type 0
HasBudget (request.Solve search) = IsBudget search.budget
HasBudget (request.Prove command) = IfSome command.budget IsBudget
HasBudget other = ⊤

-- a bound may have so many parts at most
abbrev pub most_parts : ℕ
most_parts = 65535

-- a bound has an odd count of parts, and no more than it may have, where any is asked for
abbrev pub HasOddCount : Request → Type 0
HasOddCount (request.JoinParts command) = (command.count % 2 ≡ 1) × (command.count ≤ most_parts)
HasOddCount other = ⊤
