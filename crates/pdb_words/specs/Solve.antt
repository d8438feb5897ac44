-- The words of `solve [--workers N] [--fold] [--goal first|last] [--budget N] [--replace] BOARD SETS OUT TABLES..`.
use Rattle.std.specs.Prelude.{List, [], ◌∷◌, codes}
use Rattle.clap.specs.Walk.{Row}
use Rattle.clap.specs.Simple.{App}
use Rattle.pdb_request.specs.Asked.{Asked, solve}
use Rattle.pdb_words.specs.Budget.{budget_flag, budget_in}
use Rattle.pdb_words.specs.Files.{file_in, sets, tables, tables_in}
use Rattle.pdb_words.specs.Fold.{fold_flag, fold_in}
use Rattle.pdb_words.specs.Goal.{goal_flag, goal_in}
use Rattle.pdb_words.specs.Replace.{replace_flag, replace_in}
use Rattle.pdb_words.specs.Rows.{command, needed_file}
use Rattle.pdb_words.specs.Workers.{workers_flag, workers_in}

-- the command, as `clap` sees it
abbrev pub solve_command : App
solve_command = command (codes "solve") (needed_file (codes "BOARD") ∷ workers_flag ∷ fold_flag ∷ goal_flag ∷ sets ∷ needed_file (codes "OUT") ∷ tables
    ∷ budget_flag ∷ replace_flag ∷ [])

-- what the values found of it ask for
abbrev pub solve_in : List Row → Asked
solve_in rows = solve (record {
  board = file_in (codes "BOARD") rows;
  sets = file_in (codes "SETS") rows;
  out = file_in (codes "OUT") rows;
  replace = replace_in rows;
  tables = tables_in rows;
  workers = workers_in rows;
  fold = fold_in rows;
  goal = goal_in rows;
  budget = budget_in rows;
})
