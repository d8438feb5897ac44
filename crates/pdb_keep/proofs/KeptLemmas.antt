-- What a maker's yes keeps.
use Rattle.std.proofs.Common.{◌≡◌, List, ◌∷◌, Option, Some, inl, map, refl, subst}
use Rattle.std.proofs.lemmas.Slice.Eq.{bytes_eq-Decides}
use Rattle.byte_io.specs.Shelf.{Bytes, Files, with_file}
use Rattle.byte_io.specs.Streams.{WritesAll}
use Rattle.pdb_request.specs.Asked.{MakeTableArguments, SolveArguments}
use Rattle.pdb_run.specs.Writing.{reply_text}
use Rattle.pdb_run.specs.Commands.{Reply}
use Rattle.pdb_run.specs.Inputs.{AreRead, IsReadFrom}
use Rattle.pdb_run.specs.Runs.{IsAnswered, World, kept, status_of_reply, with_kept}
use Rattle.pdb_run.specs.declared.statuses.Status.TheVariants.{Yes, Refused}
use Rattle.pdb_run.proofs.AnswerLemmas.{IsAnswered-ends}
use Rattle.pdb_verdict.specs.Inputs.{log_files}
use Rattle.pdb_verdict.specs.Limits.{a_table}
use Rattle.pdb_verdict.specs.Replay.{puzzle_of}
use Rattle.pdb_verdict.specs.Table.{IsTableResult, exact_verdict}
use Rattle.pdb_verdict.proofs.ClaimLemmas.{proved_least}
use Rattle.pdb_verdict.proofs.RefusalLemmas.{told_yes}
use Rattle.pdb_keep.specs.Kept.{IsLogKept, IsTableKept}
use Rattle.pdb_keep.specs.Laws.{KeptLogsProveOptima, KeptTablesAreExact}
use Rattle.pdb_keep.specs.MakeTable.{Build, IsBuildFor, built, make_table_plan, reply_to_build}
use Rattle.pdb_keep.specs.Solve.{IsSearchOf, SearchOutcome, reply_to_search, searched, solve_inputs, solve_plan}
use Rattle.pdb_keep.proofs.MakerLemmas.{solved-moves}

-- a reply is a yes, and what it made is kept and its lines are told
abbrev IsYes : Bytes → World → World → Reply → Type 0
IsYes out old new reply =
    (Yes ≡ status_of_reply reply.is_yes) × (new.files ≡ with_kept old.files (Some out) (kept reply))
    × WritesAll old.written new.written (reply_text reply)

-- what was kept stands under its name
pub file-kept : (files : Files) (out file : Bytes) → with_file files out file out ≡ Some file
file-kept files out file = rw ((bytes_eq-Decides out out).1 refl)

-- ---- tables

module _ (arguments : MakeTableArguments) (old new : World) where
  exact_kept : (build : Build) → IsBuildFor arguments.side arguments.mask build → IsYes arguments.out old new (reply_to_build build)
      → IsTableKept arguments old new
  exact_kept (built file v) is says =
      let yes = (told_yes exact_verdict (IsTableResult file) v).0 is.is_result in
      let speaks = rw yes.2 at is.own in
      record {
        file = file;
        census = yes.0.2;
        exact = rw (speaks.0, speaks.1) at yes.1;
        kept = says.1;
        lines = rw (yes.2, speaks.0, speaks.1) at says.2;
      }
  exact_kept _ is says = let clash : Yes ≡ Refused = says.0 in absurd cc

  -- a yes of a run that is answered
  pub table_answered : IsAnswered (make_table_plan arguments) old new Yes → IsTableKept arguments old new
  table_answered answered =
      let tells = answered.right.1 in
      exact_kept tells.build tells.is_build
      (subst (IsYes arguments.out old new) tells.told (answered.is_status, answered.files, answered.lines))

-- so of each run of `make-table` that ends with a yes
pub table_kept : KeptTablesAreExact
table_kept arguments old new ends = table_answered arguments old new (IsAnswered-ends (make_table_plan arguments) old new Yes ends (inl refl))

-- ---- logs

-- what a search read stood under the names that it was given
pub record SearchStood (shelf : Option Files) (reader : Option Bytes) (arguments : SolveArguments) (board_text set_text : Bytes)
    (files : List Bytes) : Type 0 where
  pub board : IsReadFrom shelf reader (Some arguments.board) board_text
  pub sets : IsReadFrom shelf reader (Some arguments.sets) set_text
  pub tables : AreRead shelf reader (map a_table arguments.tables) files

-- the files that were read for a search were there under the names that it was given
pub search_stood : (shelf : Option Files) (reader : Option Bytes) (arguments : SolveArguments) (board_text set_text : Bytes) (files : List Bytes)
    → AreRead shelf reader (solve_inputs arguments) (board_text ∷ set_text ∷ files) → SearchStood shelf reader arguments board_text set_text files
search_stood shelf reader arguments board_text set_text files read =
    record { board = read.0.0; sets = read.1.0.0; tables = read.1.1 }

module _ (arguments : SolveArguments) (old new : World) where
  found_kept : (board_text set_text : Bytes) (files : List Bytes)
      → AreRead old.files old.reader (solve_inputs arguments) (board_text ∷ set_text ∷ files)
      → (outcome : SearchOutcome) → IsSearchOf arguments.goal arguments.fold arguments.budget board_text set_text files outcome
      → IsYes arguments.out old new (reply_to_search arguments.goal files outcome) → IsLogKept arguments old new
  found_kept board_text set_text files read (searched moves log n) is says =
      let proved = is.is_result in
      let parts = solved-moves arguments.goal board_text moves is.could.board n proved.solved is.could.spelt in
      record {
        moves = moves;
        log = log;
        files = files;
        n = n;
        found = record {
          board_text = board_text;
          set_text = set_text;
          read = read;
          board = proved.solved.board;
          spelt = parts.0;
          solved = parts.1;
          proved = proved.found_for;
          least = proved_least (log_files arguments.goal arguments.fold (puzzle_of board_text moves) set_text log files) n proved;
        };
        kept = says.1;
        lines = says.2;
      }
  found_kept board_text set_text files read _ is says = let clash : Yes ≡ Refused = says.0 in absurd cc

  -- a yes of a run that is answered
  pub log_answered : IsAnswered (solve_plan arguments) old new Yes → IsLogKept arguments old new
  log_answered answered =
      let is = answered.right.1 in
      let tells = is.4 in
      found_kept is.0 is.1 is.2 (rw is.3 at answered.right.0) tells.outcome tells.is_outcome
      (subst (IsYes arguments.out old new) tells.told (answered.is_status, answered.files, answered.lines))

-- so of each run of `solve` that ends with a yes
pub log_kept : KeptLogsProveOptima
log_kept arguments old new ends = log_answered arguments old new (IsAnswered-ends (solve_plan arguments) old new Yes ends (inl refl))
