-- The result on given inputs: a verdict, or the first refusal that stands.
use Rattle.std.specs.Prelude.{◌≡◌, ⊤, ℕ, Result, Ok, Err}
use Rattle.tab_rule.specs.declared.census.Census.{Census}
use Rattle.pdb_request.specs.declared.requests.LogClaim.TheVariants.{Bound, Optimum}
use Rattle.pdb_run.specs.Commands.{Reply}
use Rattle.pdb_verdict.specs.Bound.{IsBoundResult, IsBoundedText, IsFoundForText, TakesMemoryForBound}
use Rattle.pdb_verdict.specs.Inputs.{Given, log_claim, puzzle_text, table_file}
use Rattle.pdb_verdict.specs.Lines.{reply_to}
use Rattle.pdb_verdict.specs.Optimal.{IsFoundForPuzzle, IsOptimum, IsOptimumResult, TakesMemoryForOptimum}
use Rattle.pdb_verdict.specs.Refusals.{IsFoundBy, IsTold}
use Rattle.pdb_verdict.specs.Replay.{IsReplayTold, IsSolvedPuzzle}
use Rattle.pdb_verdict.specs.Table.{IsExactFor, IsTableTold, TakesMemoryForTable, exact_verdict}
use Rattle.pdb_verdict.specs.declared.verdicts.Fault.{Fault}
use Rattle.pdb_verdict.specs.declared.verdicts.Fault.TheVariants as fault
use Rattle.pdb_verdict.specs.declared.verdicts.Verdict.{Verdict}
use Rattle.pdb_verdict.specs.declared.verdicts.Verdict.TheVariants as verdict

-- the verdict is of the kind that is given on the inputs, and true of them
abbrev pub IsTrueOf : Given → Verdict → Type 0
IsTrueOf (puzzle_text goal puzzle) said = (n : ℕ) × IsSolvedPuzzle goal puzzle n × (said ≡ verdict.Solution n)
IsTrueOf (table_file table) said = (exact : ℕ × ℕ × Census) × IsExactFor table exact.0 exact.1 exact.2 × (said ≡ exact_verdict exact)
IsTrueOf (log_claim Bound files) said = (n : ℕ) × IsFoundForText files (Ok n) × (said ≡ verdict.Bound n)
IsTrueOf (log_claim Optimum files) said = (n : ℕ) × IsFoundForPuzzle files n (Ok n) × (said ≡ verdict.Optimal n)

-- what a verdict on a log says of the solutions of the board: that none has fewer moves than a bound, and that an optimum is their
-- least number of moves
abbrev pub HoldsOfSolutions : Given → Verdict → Type 0
HoldsOfSolutions (puzzle_text goal puzzle) said = ⊤
HoldsOfSolutions (table_file table) said = ⊤
HoldsOfSolutions (log_claim Bound files) said = (n : ℕ) × IsBoundedText files.goal files.text n × (said ≡ verdict.Bound n)
HoldsOfSolutions (log_claim Optimum files) said = (n : ℕ) × IsOptimum files.goal files.text n × (said ≡ verdict.Optimal n)

-- the answer is the result on the inputs
abbrev pub IsResult : Given → Result Verdict Fault → Type 0
IsResult (puzzle_text goal puzzle) answer = IsReplayTold goal puzzle answer
IsResult (table_file table) answer = IsTableTold table answer
IsResult (log_claim Bound files) answer = IsTold verdict.Bound (IsBoundResult files) answer
IsResult (log_claim Optimum files) answer = IsTold verdict.Optimal (IsOptimumResult files) answer

-- the reply tells it
pub record TellsResult (inputs : Given) (reply : Reply) : Type 0 where
  pub answer : Result Verdict Fault
  pub is_result : IsResult inputs answer
  pub told : reply ≡ reply_to inputs answer

-- ---- want of memory in its place

-- it takes memory to check the inputs: to replay takes none, nor does a table file that is refused by its header; nor, before
-- the first table file whose header stands, does a claim on a log
abbrev pub TakesMemory : Given → Type 0
TakesMemory (puzzle_text goal puzzle) = ⊥
TakesMemory (table_file table) = TakesMemoryForTable table
TakesMemory (log_claim Bound files) = TakesMemoryForBound files.text files.tables
TakesMemory (log_claim Optimum files) = TakesMemoryForOptimum files.goal files.text files.tables

-- the answer is want of memory, where that is taken
abbrev pub LacksMemory : Given → Result Verdict Fault → Type 0
LacksMemory inputs answer = TakesMemory inputs × (answer ≡ Err fault.Memory)

-- the answer is the result, or want of memory where that is taken
abbrev pub IsAnswerTo : Given → Result Verdict Fault → Type 0
IsAnswerTo inputs answer = IsFoundBy (IsResult inputs) (TakesMemory inputs) answer
