-- The words of `prove [--workers N] [--fold] [--goal first|last] [--budget N] CLAIMS SETS TABLES..`.
use Rattle.std.specs.Prelude.{List, [], ◌∷◌, Option, Some, None, codes, if◌then◌else◌}
use Rattle.std.specs.Str.{bytes_eq}
use Rattle.clap.specs.Walk.{Row, Text}
use Rattle.clap.specs.Simple.{App}
use Rattle.pdb_request.specs.Asked.{Asked, prove}
use Rattle.pdb_words.specs.Budget.{optional_budget_flag, optional_budget_in}
use Rattle.pdb_words.specs.Files.{file_in, sets, tables, tables_in}
use Rattle.pdb_words.specs.Fold.{fold_flag, fold_in}
use Rattle.pdb_words.specs.Goal.{goal_flag, goal_in}
use Rattle.pdb_words.specs.Rows.{command, needed_file}
use Rattle.pdb_words.specs.Workers.{workers_flag, workers_in}

-- the command, as `clap` sees it
abbrev pub prove_command : App
prove_command =
    command (codes "prove") (needed_file (codes "CLAIMS") ∷ workers_flag ∷ fold_flag ∷ goal_flag ∷ sets ∷ tables ∷ optional_budget_flag ∷ [])

-- the file that a name stands for, or none for `-`, which stands for standard input
abbrev pub file_or_input : Text → Option Text
file_or_input name = if bytes_eq name (codes "-") then None else Some name

-- what the values found of it ask for
abbrev pub prove_in : List Row → Asked
prove_in rows = prove (record {
  claims = file_or_input (file_in (codes "CLAIMS") rows);
  sets = file_in (codes "SETS") rows;
  tables = tables_in rows;
  workers = workers_in rows;
  fold = fold_in rows;
  goal = goal_in rows;
  budget = optional_budget_in rows;
})
