-- What a search keeps, a check of it takes.
use Rattle.std.proofs.Common.{◌≡◌, ◌≢◌, ◌∙◌, Bool, true, false, List, [], ◌∷◌, Option, Some, Ok, ap, map, refl, subst, sym}
use Rattle.std.specs.Prelude.{if◌then◌else◌}
use Rattle.std.specs.List.{AllByRecursion}
use Rattle.std.specs.Str.{bytes_eq}
use Rattle.std.proofs.lemmas.Slice.Eq.{bytes_eq-Decides}
use Rattle.byte_io.specs.Shelf.{Bytes, Files, told_with, with_file}
use Rattle.pdb_request.specs.Asked.{LogArguments, SolveArguments}
use Rattle.pdb_request.specs.declared.requests.LogClaim.TheVariants.{Bound}
use Rattle.pdb_run.specs.Inputs.{AreRead}
use Rattle.pdb_run.specs.Runs.{IsAnswered, World}
use Rattle.pdb_run.specs.declared.statuses.Status.{Status}
use Rattle.pdb_run.proofs.AnswerLemmas.{IsAnswered-ends}
use Rattle.pdb_verdict.specs.Inputs.{Given, LogFiles, log_claim, log_files}
use Rattle.pdb_verdict.specs.Limits.{a_table}
use Rattle.pdb_verdict.specs.Lines.{reply_to}
use Rattle.pdb_verdict.specs.Verdicts.{IsResult, TellsResult}
use Rattle.pdb_verdict.specs.declared.verdicts.Verdict.TheVariants as verdict
use Rattle.pdb_verdict.proofs.VerdictLemmas.{IsResult-one}
use Rattle.pdb_check.specs.Plans.{log_check_inputs, log_check_plan, log_given}
use Rattle.pdb_check.proofs.ReadLemmas.{LogStood, log_stood}
use Rattle.pdb_keep.specs.Kept.{IsLogKept}
use Rattle.pdb_keep.specs.Solve.{solve_inputs}
use Rattle.pdb_keep.proofs.KeptLemmas.{file-kept, log_kept, search_stood}
use Rattle.claim_laws.specs.KeptLogs.{IsOfSearch, IsTaken, KeptLogsAreTaken}

module _ (before : Files) (out log : Bytes) where
  -- under another name stands what stood
  other_read : (same : Bool) (name old new : Bytes) → out ≢ name → bytes_eq out name ≡ same
      → before name ≡ Some old → (if same then Some log else before name) ≡ Some new → new ≡ old
  other_read true name old new differ e was is = absurd (differ ((bytes_eq-Decides out name).0 e))
  other_read false name old new differ e was is = cc

  tables_read : (old_reader new_reader : Option Bytes) (names old new : List Bytes)
      → AllByRecursion (λ name. out ≢ name) names → AreRead (Some before) old_reader (map a_table names) old
      → AreRead (Some (with_file before out log)) new_reader (map a_table names) new → new ≡ old
  tables_read old_reader new_reader [] [] [] differ was is = refl
  tables_read old_reader new_reader (name ∷ names) (x ∷ xs) (y ∷ ys) differ was is =
      let first = other_read _ name x y differ.0 refl was.0.0 is.0.0 in
      let rest = tables_read old_reader new_reader names xs ys differ.1 was.1 is.1 in
      λ i. first i ∷ rest i
  tables_read old_reader new_reader [] [] (y ∷ ys) differ was is = absurd is
  tables_read old_reader new_reader (name ∷ names) (x ∷ xs) [] differ was is = absurd is
  tables_read old_reader new_reader _ _ _ differ was is = absurd was

module _ (arguments : SolveArguments) (check : LogArguments) (of : IsOfSearch arguments check) (before : Files) (old mid later new : World) (status : Status)
    (not_text : arguments.out ≢ arguments.board) (not_sets : arguments.out ≢ arguments.sets)
    (not_tables : AllByRecursion (λ name. arguments.out ≢ name) arguments.tables)
    (had : old.files ≡ Some before) (same : later.files ≡ mid.files) (kept : IsLogKept arguments old mid) where
  -- the log that was kept and the files that were read for it, as a claim
  abbrev claim : Given
  claim = log_claim Bound (log_files arguments.goal arguments.fold kept.found.board_text kept.found.set_text kept.log kept.files)

  -- the files that are read are those
  same_files : (files : LogFiles) → LogStood (Some (with_file before arguments.out kept.log)) later.reader check files
      → log_given Bound check files ≡ claim
  same_files files is =
      let f = kept.found in
      let log = kept.log in
      let read = subst (λ (o : Option Files). AreRead o old.reader (solve_inputs arguments) (f.board_text ∷ f.set_text ∷ kept.files)) had f.read in
      let was = search_stood (Some before) old.reader arguments f.board_text f.set_text kept.files read in
      let text = other_read before arguments.out log _ arguments.board _ files.text not_text refl was.board (rw of.board at is.text) in
      let sets = other_read before arguments.out log _ arguments.sets _ files.sets not_sets refl was.sets (rw of.sets at is.sets) in
      let some_log : Some files.log ≡ Some log = sym (rw of.log at is.log) ∙ file-kept before arguments.out log in
      let same_log : files.log ≡ log = cc in
      let tables = tables_read before arguments.out log _ _ arguments.tables kept.files files.tables not_tables was.tables (rw of.tables at is.tables) in
      λ i. log_claim Bound (log_files (of.goal i) (of.fold i) (text i) (sets i) (same_log i) (tables i))

  taken_by : IsAnswered (log_check_plan Bound check) later new status → IsTaken arguments old mid later new status
  taken_by a =
      let f = kept.found in
      let is = a.right.1 in
      let has = same ∙ kept.kept ∙ ap (λ (files : Option Files). told_with files arguments.out kept.log) had in
      let read = subst (λ (r : Option Files × List Bytes). AreRead r.0 later.reader (log_check_inputs check) r.1) (λ i. (has i, is.1 i)) a.right.0 in
      let tells = subst (λ (g : Given). TellsResult g a.reply) (same_files is.0 (log_stood _ later.reader Bound check is.0 read)) is.2 in
      let proved : IsResult claim (Ok (verdict.Bound kept.n)) =
      (Ok kept.n, record { board = f.board; spelt = f.spelt; found_for = f.proved }, refl) in
      let reply = tells.told ∙ ap (reply_to claim) (IsResult-one claim tells.answer _ tells.is_result proved) in
      record { kept = kept; is_yes = rw reply at a.is_status; lines = rw reply at a.lines }

-- a check of what a search has kept says yes, and the number that the search said
pub log_taken : KeptLogsAreTaken
log_taken arguments check before old mid later new status of not_text not_sets not_tables had solved same ends how =
    taken_by arguments check of before old mid later new status not_text not_sets not_tables had same (log_kept arguments old mid solved)
    (IsAnswered-ends (log_check_plan Bound check) later new status ends how)
