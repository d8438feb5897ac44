-- What the steps of a check answer: a part of the result, or want of memory in its place.
use Rattle.std.specs.Prelude.{◌≡◌, ◌≤◌, ℕ, Bool, true, ◌==◌, if◌then◌else◌, List, [], ◌∷◌, ◌++◌, Option, Some, None, Result, MatchResult, Ok, Err, Vec, length}
use Rattle.tab_file.specs.TableFiles.{IsTableFile}
use Rattle.tab_file.specs.Tables.{Table}
use Rattle.tab_rule.specs.ExactTables.{IsExactFile}
use Rattle.tab_rule.specs.TableFaults.{IsTableFaultOf}
use Rattle.tab_rule.specs.declared.tables.TableFault.{TableFault}
use Rattle.tab_rule.specs.declared.tables.TableFault.TheVariants as table_fault
use Rattle.set_sum.specs.Bundles.{ShownBundle}
use Rattle.set_sum.specs.declared.parts.Part.{Part}
use Rattle.log_check.specs.declared.faults.LogFault.{LogFault}
use Rattle.log_check.specs.declared.faults.LogFault.TheVariants as log_fault
use Rattle.puz_goal.specs.declared.goals.Goal.{Goal}
use Rattle.byte_io.specs.Shelf.{Bytes}
use Rattle.pdb_request.specs.declared.requests.LogClaim.{LogClaim}
use Rattle.pdb_request.specs.declared.requests.LogCheck.{LogCheck}
use Rattle.pdb_run.specs.Answers.{all_bytes}
use Rattle.pdb_run.specs.declared.digests.TheConstants.{FILES_BESIDE}
use Rattle.pdb_verdict.specs.BegunClaims.{begun}
use Rattle.pdb_verdict.specs.Bound.{IsBoundFor}
use Rattle.pdb_verdict.specs.FileBundles.{AreExactFiles, IsFirstRefused, IsReadBundle, TakesMemoryForTables, part_for, parts_for}
use Rattle.pdb_verdict.specs.Inputs.{Given, LogFiles, log_claim, log_files}
use Rattle.pdb_verdict.specs.Refusals.{IsFoundBy, told_as}
use Rattle.pdb_verdict.specs.Verdicts.{IsAnswerTo}
use Rattle.pdb_verdict.specs.declared.claims.BegunClaim.{BegunClaim}
use Rattle.pdb_verdict.specs.declared.verdicts.Fault.{Fault}
use Rattle.pdb_verdict.specs.declared.verdicts.Fault.TheVariants as fault
use Rattle.pdb_verdict.specs.declared.verdicts.Verdict.{Verdict}
use Rattle.pdb_verdict.specs.declared.verdicts.Verdict.TheVariants as verdict

-- ---- tables

-- the part is the exact table of the file, folded or full
abbrev pub IsPartOf : Bool → Bytes → Part → Type 0
IsPartOf fold file part = (table : Table) × IsExactFile table file × (part ≡ part_for fold table)

-- the parts are the exact tables of all files, folded or full
pub record ArePartsOf (fold : Bool) (files : List Bytes) (parts : List Part) : Type 0 where
  pub tables : List Table
  pub exact : AreExactFiles tables files
  pub are : parts ≡ parts_for fold tables

-- why there isn't the table of the file with this number: it is refused, or want of memory, which comes of table files alone
abbrev pub IsCauseAt : ℕ → Bytes → Fault → Type 0
IsCauseAt number file (fault.TableOf i refused) = (i ≡ number) × IsTableFaultOf refused file
IsCauseAt number file fault.Memory = (table : Table) × IsTableFile table file
IsCauseAt number file _ = ⊥

-- these are the parts and that for one file more, or why there aren't those
abbrev pub AreNextParts : {A : Type 0} → Bool → List Part → Bytes → Result (Vec Part A) Fault → Type 0
AreNextParts fold before file after =
    MatchResult after (λ more. (part : Part) × IsPartOf fold file part × (more.items ≡ before ++ part ∷ [])) (IsCauseAt (length before) file)

-- why there aren't the tables of all files: the first that is refused, or want of memory
abbrev pub IsCauseForTables : List Bytes → Fault → Type 0
IsCauseForTables files (fault.TableOf number refused) = IsFirstRefused files number refused
IsCauseForTables files fault.Memory = TakesMemoryForTables files
IsCauseForTables files _ = ⊥

-- ---- files

-- all files of tables: those that are given up, where there are such, and else those that are kept
abbrev pub given_or : {A B : Type 0} → Option (Vec A B) → List A → List A
given_or None kept = kept
given_or (Some given) kept = given.items

-- tables are folded, and the files that are given up are not too many for it
abbrev pub IsGivenUp : {A B : Type 0} → Bool → Vec A B → Type 0
IsGivenUp fold given = (fold ≡ true) × (length given.items ≤ FILES_BESIDE)

-- the files that were read for a check of a log
abbrev pub files_read : {A : Type 0} → LogCheck (Vec ℕ A) → LogFiles
files_read check = log_files check.goal check.fold check.text.items check.sets.items check.log.items (all_bytes check.tables.items)

-- what is claimed of them
abbrev pub claim_read : {A : Type 0} → LogCheck (Vec ℕ A) → Given
claim_read check = log_claim check.claim (files_read check)

-- ---- bounds

-- why a log is refused, or want of memory
abbrev pub of_log : LogFault → Fault
of_log (log_fault.Refused refused) = fault.Log refused
of_log log_fault.Memory = fault.Memory

-- the bound for a board, or why there is none, or want of memory
abbrev pub IsFoundFor : Bool → List ℕ → Bytes → Bytes → List Bytes → Result ℕ Fault → Type 0
IsFoundFor fold board sets log tables found = IsFoundBy (IsBoundFor fold board sets log tables) (TakesMemoryForTables tables) found

-- ---- claims on a log

-- the bound of a board that so many moves solve, as an optimum
abbrev pub optimum_of : ℕ → ℕ → Result ℕ Fault
optimum_of n bound = if n == bound then Ok bound else Err (fault.O1 n bound)

-- what is found for a board that so many moves solve, as the result of `optimal`
abbrev pub as_optimum : ℕ → Result ℕ Fault → Result ℕ Fault
as_optimum n (Ok bound) = optimum_of n bound
as_optimum n (Err refused) = Err refused

-- the answer on what is found for the board
abbrev pub answer_with : Option ℕ → Result ℕ Fault → Result Verdict Fault
answer_with None found = told_as verdict.Bound found
answer_with (Some n) found = told_as verdict.Optimal (as_optimum n found)

-- this is the answer to a claim that begins so, on any text that does, over any files of which this is read
abbrev pub IsAnswerOver : Result ShownBundle Fault → BegunClaim → Bytes → Result Verdict Fault → Type 0
IsAnswerOver read start log answer =
    (goal : Goal) (claim : LogClaim) (fold : Bool) (text sets : Bytes) (tables : List Bytes) → begun goal claim text ≡ Ok start →
    IsReadBundle fold tables sets read → IsAnswerTo (log_claim claim (log_files goal fold text sets log tables)) answer

-- ---- a table file alone

-- why a table file is refused, or want of memory
abbrev pub of_table : TableFault → Fault
of_table (table_fault.Refused refused) = fault.Table refused
of_table table_fault.Memory = fault.Memory
