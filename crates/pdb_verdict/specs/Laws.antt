-- What holds of all inputs.
use Rattle.std.specs.Prelude.{◌≡◌, ◌↔◌, ℕ, ◌<◌, true, false, Result, Ok, slice_index}
use Rattle.tab_file.specs.Tables.{Table}
use Rattle.tab_rule.specs.ExactTables.{IsExactFile}
use Rattle.byte_io.specs.Shelf.{Bytes}
use Rattle.pdb_run.specs.Commands.{Reply}
use Rattle.pdb_verdict.specs.Inputs.{Given, bytes_of, table_file}
use Rattle.pdb_verdict.specs.Lines.{reply_to}
use Rattle.pdb_verdict.specs.Verdicts.{HoldsOfSolutions, IsResult, IsTrueOf, TellsResult}
use Rattle.pdb_verdict.specs.declared.verdicts.Fault.{Fault}
use Rattle.pdb_verdict.specs.declared.verdicts.Verdict.{Verdict}

-- all inputs, which are bytes, have a result
abbrev pub InputsHaveAResult : Type 0
InputsHaveAResult = (inputs : Given) → ((i : ℕ) → slice_index (bytes_of inputs) i < 256) → (answer : Result Verdict Fault) × IsResult inputs answer

-- no inputs have two results
abbrev pub InputsHaveOneResult : Type 0
InputsHaveOneResult = (inputs : Given) (a b : Result Verdict Fault) → IsResult inputs a → IsResult inputs b → a ≡ b

-- a verdict is the result exactly where it is true of the inputs
abbrev pub ResultsAreTrueVerdicts : Type 0
ResultsAreTrueVerdicts = (inputs : Given) (verdict : Verdict) → IsResult inputs (Ok verdict) ↔ IsTrueOf inputs verdict

-- what is true of a log holds of the solutions of the board
abbrev pub TrueVerdictsHoldOfSolutions : Type 0
TrueVerdictsHoldOfSolutions = (inputs : Given) (verdict : Verdict) → IsTrueOf inputs verdict → HoldsOfSolutions inputs verdict

-- ---- what is told

-- the reply tells a verdict that is true of the inputs and holds of the solutions
pub record IsToldYes (inputs : Given) (reply : Reply) : Type 0 where
  pub verdict : Verdict
  pub is_true : IsTrueOf inputs verdict
  pub holds : HoldsOfSolutions inputs verdict
  pub told : reply ≡ reply_to inputs (Ok verdict)

-- each yes that tells the result on inputs does so
abbrev pub ToldYesesAreTrue : Type 0
ToldYesesAreTrue = (inputs : Given) (reply : Reply) → TellsResult inputs reply → reply.is_yes ≡ true → IsToldYes inputs reply

-- a table file is told a no only where it is no exact file, of whatever pattern
abbrev pub TablesToldNoAreNotExact : Type 0
TablesToldNoAreNotExact =
    (file : Bytes) (reply : Reply) → TellsResult (table_file file) reply → reply.is_yes ≡ false →
    (t : Table) → ¬ IsExactFile t file
