-- What answers tell of verdicts.
use Rattle.std.proofs.Common.{◌≡◌, ◌∙◌, ℕ, ◌≤◌, List, Result, Ok, Err, ap, arith, subst, sym}
use Rattle.puz_goal.specs.declared.goals.Goal.TheVariants.{First}
use Rattle.pdb_verdict.specs.Replay.{IsReplayTold, IsSolvedPuzzle}
use Rattle.pdb_verdict.specs.Table.{IsTableTold}
use Rattle.pdb_verdict.specs.declared.verdicts.Fault.{Fault}
use Rattle.pdb_verdict.specs.declared.verdicts.Fault.TheVariants as fault
use Rattle.pdb_verdict.specs.declared.verdicts.Verdict.{Verdict}
use Rattle.pdb_checker.specs.Answers.{count_of, status_of}
use Rattle.pdb_checker.specs.Claims.{IsExact}

-- no refusal has the status of a yes or of a shorter solution
pub refused_status : (refused : Fault) → 2 ≤ status_of (Err refused)
refused_status fault.Memory = omega arith
refused_status _ = omega arith

no_yes : (found : Result Verdict Fault) (refused : Fault) → found ≡ Err refused → status_of found ≡ 0 → ⊥
no_yes found refused same is =
    let e : status_of (Err refused) ≡ 0 = ap status_of (sym same) ∙ is in
    let low = refused_status refused in
    omega arith

-- a yes to a puzzle text tells how many moves solve its board
pub replay_yes : (puzzle : List ℕ) (found : Result Verdict Fault) → IsReplayTold First puzzle found → status_of found ≡ 0
    → IsSolvedPuzzle First puzzle (count_of found)
replay_yes puzzle found (Ok n, is, same) zero_is = subst (λ r. IsSolvedPuzzle First puzzle (count_of r)) (sym same) is
replay_yes puzzle found (Err refused, is, same) zero_is = absurd (no_yes found refused same zero_is)

-- a yes to a table file says that it is exact
pub table_yes : (file : List ℕ) (found : Result Verdict Fault) → IsTableTold file found → status_of found ≡ 0 → IsExact file
table_yes file found (Ok exact, is, same) zero_is = (is.table, is.exact)
table_yes file found (Err refused, is, same) zero_is = absurd (no_yes found refused same zero_is)
