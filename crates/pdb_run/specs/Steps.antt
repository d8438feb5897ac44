-- What the steps of a run do.
use Rattle.std.specs.Prelude.{◌≡◌, List, [], ◌∷◌, ◌++◌, Option, map, option_map}
use Rattle.byte_io.specs.Shelf.{Bytes}
use Rattle.pdb_run.specs.Answers.{made_file}
use Rattle.pdb_run.specs.Commands.{Plan, Wanted}
use Rattle.pdb_run.specs.Inputs.{AreRead, IsAsTold, left_by_all}
use Rattle.pdb_run.specs.Io.{IsLoaded}
use Rattle.pdb_run.specs.Runs.{IsFree, World, calls_before, kept_after}
use Rattle.pdb_run.specs.declared.answers.CommandAnswer.{CommandAnswer}
use Rattle.pdb_run.specs.declared.runs.Keeping.{Keeping}

-- how the files begin that may be replaced, if not any may, as the code has it
abbrev pub fronts_in : Keeping → Option (List Bytes)
fronts_in keeping = option_map (λ fronts. map (λ front. front.now) fronts.now) keeping.replaces

-- this input was read behind those before it
pub record IsNext (wanted : Wanted) (old new : World) (before after : List Bytes) : Type 0 where
  pub bytes : Bytes
  pub loaded : IsLoaded wanted old new bytes
  pub added : after ≡ before ++ bytes ∷ []

-- the inputs were read, and the name was tried where a file is to be kept: what is behind them is for the check and the maker
pub record HasBegun (plan : Plan) (old new : World) (inputs : List Bytes) : Type 0 where
  pub read : AreRead old.files old.reader plan.inputs inputs
  pub free : IsFree plan old.files inputs
  pub behind : IsAsTold (left_by_all old.reader plan.inputs) new.reader
  pub calls : new.calls ≡ calls_before plan old.calls
  pub files : new.files ≡ old.files
  pub failed : new.failed ≡ old.failed
  pub written : new.written ≡ old.written

-- the file that is kept of an answer
abbrev pub kept_of : CommandAnswer → Option Bytes
kept_of answer = kept_after answer.is_yes (made_file answer)
