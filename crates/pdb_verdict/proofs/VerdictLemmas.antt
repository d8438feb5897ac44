-- Inputs have one result, and it is a verdict exactly where that is true.
use Rattle.std.proofs.Common.{◌≡◌, ◌∙◌, ◌↔◌, ◌⊎◌, ℕ, ◌<◌, true, false, inl, inr, slice_index, Result, Ok, Err, ap, append-nil, refl, sym}
use Rattle.tab_file.specs.Tables.{Table}
use Rattle.tab_rule.specs.ExactTables.{IsExactFile}
use Rattle.puz_goal.specs.Turning.{board_for}
use Rattle.puz_goal.proofs.SolvingLemmas.{bounded_for}
use Rattle.byte_io.specs.Shelf.{Bytes}
use Rattle.pdb_request.specs.declared.requests.LogClaim.TheVariants.{Bound, Optimum}
use Rattle.pdb_run.specs.Commands.{Reply}
use Rattle.pdb_verdict.specs.Bound.{IsBoundResult}
use Rattle.pdb_verdict.specs.Inputs.{Given, bytes_of, log_claim, puzzle_text, table_file}
use Rattle.pdb_verdict.specs.Laws.{IsToldYes}
use Rattle.pdb_verdict.specs.Lines.{reply_to}
use Rattle.pdb_verdict.specs.Optimal.{IsOptimumResult}
use Rattle.pdb_verdict.specs.Refusals.{told_as}
use Rattle.pdb_verdict.specs.Replay.{IsReplayResult}
use Rattle.pdb_verdict.specs.Table.{IsTableResult, exact_verdict}
use Rattle.pdb_verdict.specs.Verdicts.{HoldsOfSolutions, IsAnswerTo, IsResult, IsTrueOf, LacksMemory, TellsResult}
use Rattle.pdb_verdict.specs.declared.verdicts.Fault.{Fault}
use Rattle.pdb_verdict.specs.declared.verdicts.Verdict.{Verdict}
use Rattle.pdb_verdict.proofs.BoundLemmas.{proved_bounds}
use Rattle.pdb_verdict.proofs.ClaimLemmas.{IsBoundResult-one, IsOptimumResult-one, bound_some, optimum_some, proved_least}
use Rattle.pdb_verdict.proofs.RefusalLemmas.{IsOne, by_result, one_made, some_made, told_yes}
use Rattle.pdb_verdict.proofs.ReplayLemmas.{IsReplayResult-one, replay_some}
use Rattle.pdb_verdict.proofs.TableLemmas.{IsTableResult-one, refused_no_exact, table_some}

-- a verdict is the result exactly where it is true
pub IsResult-true : (inputs : Given) (v : Verdict) → IsResult inputs (Ok v) ↔ IsTrueOf inputs v
IsResult-true (puzzle_text goal puzzle) = told_yes Verdict.Solution (IsReplayResult goal puzzle)
IsResult-true (table_file table) = told_yes exact_verdict (IsTableResult table)
IsResult-true (log_claim Bound files) = told_yes Verdict.Bound (IsBoundResult files)
IsResult-true (log_claim Optimum files) = told_yes Verdict.Optimal (IsOptimumResult files)

-- a true verdict on a log holds of the solutions
pub true_holds : (inputs : Given) (v : Verdict) → IsTrueOf inputs v → HoldsOfSolutions inputs v
true_holds (puzzle_text goal puzzle) v h = tt
true_holds (table_file table) v h = tt
true_holds (log_claim Bound files) v h =
    let bounded = proved_bounds files.fold (board_for files.goal h.1.board) files.sets files.log files.tables h.0 h.1.found_for in
    (h.0, (h.1.board, h.1.spelt, bounded_for files.goal h.1.board h.0 h.1.spelt.board bounded), h.2)
true_holds (log_claim Optimum files) v h = (h.0, record { solved = h.1.solved; least = proved_least files h.0 h.1 }, h.2)

-- there is one result
pub IsResult-one : (inputs : Given) → IsOne (IsResult inputs)
IsResult-one (puzzle_text goal puzzle) = one_made (told_as Verdict.Solution) (IsReplayResult-one goal puzzle)
IsResult-one (table_file table) = one_made (told_as exact_verdict) (IsTableResult-one table)
IsResult-one (log_claim Bound files) = one_made (told_as Verdict.Bound) (IsBoundResult-one files)
IsResult-one (log_claim Optimum files) = one_made (told_as Verdict.Optimal) (IsOptimumResult-one files)

-- inputs, which are bytes, have a result
pub result_some : (inputs : Given) → ((i : ℕ) → slice_index (bytes_of inputs) i < 256) → (answer : Result Verdict Fault) × IsResult inputs answer
result_some (puzzle_text goal puzzle) small = some_made (told_as Verdict.Solution) (replay_some goal puzzle)
result_some (table_file file) small = some_made (told_as exact_verdict) (table_some file (rw append-nil at small))
result_some (log_claim Bound files) small = some_made (told_as Verdict.Bound) (bound_some files)
result_some (log_claim Optimum files) small = some_made (told_as Verdict.Optimal) (optimum_some files)

-- ---- answers

-- an answer is the result, or want of memory
result_or_memory : (inputs : Given) (answer : Result Verdict Fault) → IsAnswerTo inputs answer → IsResult inputs answer ⊎ LacksMemory inputs answer
result_or_memory inputs (Ok verdict) is = inl is
result_or_memory inputs (Err Fault.Memory) is = inr (is, refl)
result_or_memory inputs (Err refused) is = inl is

-- a yes is answered only where it is true
pub yes_is_true : (inputs : Given) (answer : Result Verdict Fault) → IsAnswerTo inputs answer → (v : Verdict) → answer ≡ Ok v → IsTrueOf inputs v
yes_is_true inputs answer is v same = (IsResult-true inputs v).0 (rw same at is)

-- and always then, where memory is there
pub true_is_yes : (inputs : Given) (answer : Result Verdict Fault) → IsAnswerTo inputs answer → (v : Verdict) → IsTrueOf inputs v
    → (answer ≡ Ok v) ⊎ LacksMemory inputs answer
true_is_yes inputs answer is v holds = elim (result_or_memory inputs answer is) [
  | inl result ↦ inl (IsResult-one inputs answer (Ok v) result ((IsResult-true inputs v).1 holds))
  | inr lacks ↦ inr lacks
]

-- ---- what is told

-- the verdict of a yes is true of the inputs, and holds of the solutions
pub yes_told : (inputs : Given) (reply : Reply) → TellsResult inputs reply → reply.is_yes ≡ true → IsToldYes inputs reply
yes_told inputs reply tells is = by_result tells.answer
    (λ v same.
    let is_true = (IsResult-true inputs v).0 (rw same at tells.is_result) in
    let told = tells.told ∙ ap (reply_to inputs) same in
    record { verdict = v; is_true = is_true; holds = true_holds inputs v is_true; told = told })
    (λ refused same.
    let told = tells.told ∙ ap (reply_to inputs) same in
    let clash : false ≡ true = sym (ap (λ (r : Reply). r.is_yes) told) ∙ is in cc)

-- a table file that is answered with a no is no exact file
pub no_told : (file : Bytes) (reply : Reply) → TellsResult (table_file file) reply → reply.is_yes ≡ false → (t : Table) → ¬ IsExactFile t file
no_told file reply tells is t exact = by_result tells.is_result.0
    (λ found same.
    let told = tells.told ∙ ap (reply_to (table_file file)) (tells.is_result.2 ∙ ap (told_as exact_verdict) same) in
    let clash : true ≡ false = sym (ap (λ (r : Reply). r.is_yes) told) ∙ is in cc)
    (λ refused same. refused_no_exact file refused (rw same at tells.is_result.1) t exact)
