use Rattle.std.proofs.Common.{arith}
use Rattle.claim_text.proofs.LetterLemmas.{length-letters}
use Rattle.test_parts.proofs.answers.shorter.Goals as goal

-- a solution has no more letters than bytes, and these are at most 255
pub shorter_line-requires-clause-solution : goal.shorter_line-requires-clause-solution
shorter_line-requires-clause-solution g c = omega (arith, length-letters c.args.solution.now)
