use Rattle.std.proofs.Common.{ℕ, ◌<◌, slice_index_or}
use Rattle.pdb_checker.specs.Claims.{IsAnswered}
use Rattle.pdb_checker.specs.declared.answers.Answer.{Answer}
use Rattle.pdb_checker.specs.declared.claims.Claim.{Claim}
use Rattle.pdb_checker.proofs.claims.answer_each.Given as goal

-- the claims so far are answered
abbrev pub invariant-loop-number : goal.invariant-loop-number
invariant-loop-number l = record {
  each : (at : ℕ) (claim : Claim) (answer : Answer) → at < l.number → IsAnswered (slice_index_or l.claims at claim) (slice_index_or l.answers at answer);
}
