-- The words of `bound [--workers N] [--fold] [--goal first|last] BOARD SETS LOG TABLES..`, and of `optimal`, which has PUZZLE in place
-- of BOARD.
use Rattle.std.specs.Prelude.{List, [], ◌∷◌, codes}
use Rattle.clap.specs.Walk.{Row, Text}
use Rattle.clap.specs.Simple.{App}
use Rattle.pdb_request.specs.Asked.{Asked, claimed}
use Rattle.pdb_request.specs.declared.requests.LogClaim.{LogClaim}
use Rattle.pdb_request.specs.declared.requests.LogClaim.TheVariants.{Bound, Optimum}
use Rattle.pdb_words.specs.Files.{file_in, sets, tables, tables_in}
use Rattle.pdb_words.specs.Fold.{fold_flag, fold_in}
use Rattle.pdb_words.specs.Goal.{goal_flag, goal_in}
use Rattle.pdb_words.specs.Rows.{command, needed_file}
use Rattle.pdb_words.specs.Workers.{workers_flag, workers_in}

-- the name of the command that asks for a log's check
abbrev pub check_name : LogClaim → Text
check_name Bound = codes "bound"
check_name Optimum = codes "optimal"

-- the id of the text that the claim is about
abbrev pub text_id : LogClaim → Text
text_id Bound = codes "BOARD"
text_id Optimum = codes "PUZZLE"

-- the command, as `clap` sees it
abbrev pub check_command : LogClaim → App
check_command claim =
    command (check_name claim) (needed_file (text_id claim) ∷ workers_flag ∷ fold_flag ∷ goal_flag ∷ sets ∷ needed_file (codes "LOG") ∷ tables ∷ [])

-- what the values found of it ask for
abbrev pub check_in : LogClaim → List Row → Asked
check_in claim rows = claimed claim (record {
  text = file_in (text_id claim) rows;
  sets = file_in (codes "SETS") rows;
  log = file_in (codes "LOG") rows;
  tables = tables_in rows;
  workers = workers_in rows;
  fold = fold_in rows;
  goal = goal_in rows;
})
