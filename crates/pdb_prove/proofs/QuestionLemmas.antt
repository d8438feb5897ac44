-- What a search below a bound finds is right for the claim.
use Rattle.std.proofs.Common.{◌≡◌, ◌<◌, ◌≤◌, ℕ, List, None, Some, arith, min, subst}
use Rattle.move_strings.specs.BoundParts.{ShownPart}
use Rattle.puz_board.specs.MovesTexts.{Solves}
use Rattle.puz_search.specs.Answers.{IsAnswer, IsAnswerInTurn}
use Rattle.puz_search.specs.Guides.{ShownGuide}
use Rattle.puz_search.specs.declared.answers.SearchAnswer.{SearchAnswer}
use Rattle.puz_search.specs.declared.answers.SearchAnswer.TheVariants as search
use Rattle.pdb_verdict.specs.declared.verdicts.Fault.TheVariants.{K2}
use Rattle.pdb_prove.specs.Answers.{IsBoundFor, IsOptimumFor, IsPartFor}
use Rattle.pdb_prove.specs.Steps.{found_below}
use Rattle.pdb_prove.specs.declared.answers.Finding.TheVariants.{Bound, Optimum, Part, Refused}

module _ (guide : ShownGuide) (budget : ℕ) (b : List ℕ) (r : ℕ) where
  -- for the claim of a bound
  pub bound_found : (answer : SearchAnswer) → IsAnswerInTurn guide None b r budget answer → IsBoundFor guide budget b r (found_below Bound answer)
  bound_found (search.Refuted boards) is = (boards, is)
  bound_found (search.Solved letters) is = is
  bound_found search.Spent is = is

  -- for that of a part of one
  pub part_found : (p : ShownPart) (answer : SearchAnswer) → IsAnswerInTurn guide (Some p) b r budget answer
      → IsPartFor guide budget b r p (found_below Part answer)
  part_found p (search.Refuted boards) is = (boards, is)
  part_found p (search.Solved letters) is = is
  part_found p search.Spent is = is

module _ (guide : ShownGuide) (budget : ℕ) (b text : List ℕ) (n : ℕ) (solves : Solves b text n) where
  -- for that of moves, where they are few
  few_found : n ≤ 255 → (answer : SearchAnswer) → IsAnswerInTurn guide None b (min n 255) budget answer
      → IsOptimumFor guide budget b text (found_below (Optimum n) answer)
  few_found few (search.Refuted boards) is =
      let least : min n 255 ≡ n = omega arith in
      (solves, few, (boards, subst (λ r. IsAnswer guide b r budget (search.Refuted boards)) least is))
  few_found few (search.Solved letters) is = (n, solves, is)
  few_found few search.Spent is = (n, solves, is)

  -- and where they are more
  many_found : 255 < n → (answer : SearchAnswer) → IsAnswerInTurn guide None b (min n 255) budget answer
      → IsOptimumFor guide budget b text (found_below (Refused K2) answer)
  many_found many (search.Refuted boards) is = (n, solves, many, (boards, is))
  many_found many (search.Solved letters) is = (n, solves, is)
  many_found many search.Spent is = (n, solves, is)

  -- the same of the bound below which is searched
  pub few_moves : n ≤ 255 → (answer : SearchAnswer) → IsAnswerInTurn guide None b n budget answer
      → IsOptimumFor guide budget b text (found_below (Optimum n) answer)
  few_moves few answer is =
      let least : n ≡ min n 255 = omega arith in few_found few answer (subst (λ r. IsAnswerInTurn guide None b r budget answer) least is)

  pub many_moves : 255 < n → (answer : SearchAnswer) → IsAnswerInTurn guide None b 255 budget answer
      → IsOptimumFor guide budget b text (found_below (Refused K2) answer)
  many_moves many answer is =
      let least : 255 ≡ min n 255 = omega arith in many_found many answer (subst (λ r. IsAnswerInTurn guide None b r budget answer) least is)
