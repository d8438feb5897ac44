-- What answers tell.
use Rattle.std.specs.Prelude.{◌≡◌, ℕ, List, take, Result, Ok, Err}
use Rattle.pdb_verdict.specs.Lines.{line_of}
use Rattle.pdb_verdict.specs.declared.verdicts.Fault.{Fault}
use Rattle.pdb_verdict.specs.declared.verdicts.Fault.TheVariants as fault
use Rattle.pdb_verdict.specs.declared.verdicts.Verdict.{Verdict}
use Rattle.pdb_verdict.specs.declared.verdicts.Verdict.TheVariants as verdict
use Rattle.pdb_checker.specs.declared.answers.Answer.{Answer}

-- the letters of the solution that an answer has
abbrev pub moves_in : Answer → List ℕ
moves_in answer = take answer.letters answer.moves

-- its line
abbrev pub line_in : Answer → List ℕ
line_in answer = take answer.length answer.line

-- the status of a verdict, a refusal or want of memory
abbrev pub status_of : Result Verdict Fault → ℕ
status_of (Ok told) = 0
status_of (Err fault.Memory) = 3
status_of (Err refused) = 2

-- how many moves it tells, or the bound; and 0 of all else
abbrev pub count_of : Result Verdict Fault → ℕ
count_of (Ok (verdict.Solution n)) = n
count_of (Ok (verdict.Bound n)) = n
count_of (Ok (verdict.Optimal n)) = n
count_of _ = 0

-- the answer tells it, in the line of the program
pub record IsAnswerOf (found : Result Verdict Fault) (answer : Answer) : Type 0 where
  pub status : answer.status ≡ status_of found
  pub count : answer.count ≡ count_of found
  pub line : line_in answer ≡ line_of found
