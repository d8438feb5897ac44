-- Searches below lower thresholds, one after the other, before that of a bound.
use Rattle.std.proofs.Common.{◌≡◌, ◌≢◌, ℕ, suc, ◌+◌, ◌-◌, ◌*◌, ◌<◌, ◌≤◌, List, Option, None, Some, arith, refl, subst}
use Rattle.puz_board.specs.Parity.{blank_parity}
use Rattle.move_strings.specs.BoundParts.{ShownPart}
use Rattle.puz_search.specs.Answers.{IsAnswerInTurn, IsAnswerTo, IsShorter}
use Rattle.puz_search.specs.Guides.{ShownGuide}
use Rattle.puz_search.specs.Searches.{FailsInTurn, SearchFails, SearchHas}
use Rattle.puz_search.specs.declared.answers.SearchAnswer.{SearchAnswer}
use Rattle.puz_search.specs.declared.answers.SearchAnswer.TheVariants.{Refuted, Solved, Spent}

-- the searches below the first thresholds failed, with what was spent of the budget, and this is the next one; they are lower than the
-- bound r
pub record IsRising (g : ShownGuide) (p : Option ShownPart) (b : List ℕ) (r budget left threshold : ℕ) : Type 0 where
  pub thresholds : ℕ
  pub reached : threshold ≡ blank_parity b + 2 * thresholds + 1
  pub low : 2 * thresholds ≤ r
  pub spent : ℕ
  pub fails : FailsInTurn g p b thresholds spent
  pub sum : spent + left ≡ budget

-- fewer moves than a bound are fewer than a greater one
shorter_still : (b letters : List ℕ) (threshold r : ℕ) → threshold ≤ r → IsShorter b threshold letters → IsShorter b r letters
shorter_still b letters threshold r low is = let less : is.0 < threshold = is.1 in (is.0, omega arith, is.2)

module _ (g : ShownGuide) (b : List ℕ) where
  -- what a search that is refuted says of its boards
  refuted_fails : (p : Option ShownPart) (r left boards : ℕ) → IsAnswerTo g p b r left (Refuted boards) → SearchFails g p r b boards × (boards ≤ left)
  refuted_fails None r left boards is = (is.1, is.2)
  refuted_fails (Some p) r left boards is = (is.1, is.2)

  -- and one whose budget is spent
  spent_has : (p : Option ShownPart) (r left : ℕ) → IsAnswerTo g p b r left Spent → (boards : ℕ) × SearchHas g p r b boards × (left < boards)
  spent_has None r left is = is
  spent_has (Some p) r left is = is

  module _ (p : Option ShownPart) (r budget : ℕ) where
    -- no threshold has been searched yet, and the whole budget is left
    pub rising_first : (threshold : ℕ) → threshold ≡ blank_parity b + 1 → IsRising g p b r budget budget threshold
    rising_first threshold e = record {
      thresholds = 0;
      reached = omega (arith, e);
      low = omega arith;
      spent = 0;
      fails = refl;
      sum = omega arith;
    }

    module _ (left threshold : ℕ) (is : IsRising g p b r budget left threshold) where
      -- one threshold more, which is lower than the bound
      pub rising_next : (boards : ℕ) → threshold + 4 ≤ r → IsAnswerTo g p b threshold left (Refuted boards)
          → IsRising g p b r budget (left - boards) (threshold + 2)
      rising_next boards below refuted =
          let reached : threshold ≡ blank_parity b + 2 * is.thresholds + 1 = is.reached in
          let fails = refuted_fails p threshold left boards refuted in
          let few : boards ≤ left = fails.1 in
          record {
            thresholds = suc is.thresholds;
            reached = omega arith;
            low = omega arith;
            spent = is.spent + boards;
            fails = (is.spent, boards, is.fails, subst (λ at. SearchFails g p at b boards) reached fails.0, refl);
            sum = let sum = is.sum in omega arith;
          }

      -- where the search below a threshold, or below the bound, has more boards than what is left
      spent_here : (bound : ℕ) → 2 * is.thresholds ≤ bound → bound ≤ r → IsAnswerTo g p b bound left Spent
          → IsAnswerInTurn g p b r budget Spent
      spent_here bound above low spent =
          let has = spent_has p bound left spent in
          let more : left < has.0 = has.2 in
          let sum : is.spent + left ≡ budget = is.sum in (
            is.thresholds,
            bound,
            above,
            low,
            (is.spent, has.0, is.fails, omega arith, has.1, omega arith),
          )

      -- what ends the search below a threshold, but that it is refuted, is the answer
      pub rising_ends : threshold ≤ r → (answer : SearchAnswer) → ((boards : ℕ) → answer ≢ Refuted boards)
          → IsAnswerTo g p b threshold left answer → IsAnswerInTurn g p b r budget answer
      rising_ends low (Refuted boards) other is_answer = absurd (other boards refl)
      rising_ends low (Solved letters) other is_answer = solved p is_answer
        where
          solved : (p : Option ShownPart) → IsAnswerTo g p b threshold left (Solved letters) → IsAnswerTo g p b r budget (Solved letters)
          solved None shorter = shorter_still b letters.items threshold r low shorter
          solved (Some p) shorter = shorter_still b letters.items threshold r low shorter
      rising_ends low Spent other is_answer =
          let reached : threshold ≡ blank_parity b + 2 * is.thresholds + 1 = is.reached in
          spent_here threshold (omega arith) low is_answer

      -- and so is what the search below the bound answers
      pub rising_last : (answer : SearchAnswer) → IsAnswerTo g p b r left answer → IsAnswerInTurn g p b r budget answer
      rising_last (Refuted boards) is_answer = refuted p is_answer
        where
          within : boards ≤ left → boards ≤ budget
          within few = let sum : is.spent + left ≡ budget = is.sum in omega arith

          refuted : (p : Option ShownPart) → IsAnswerTo g p b r left (Refuted boards) → IsAnswerTo g p b r budget (Refuted boards)
          refuted None of = (of.0, of.1, within of.2)
          refuted (Some p) of = (of.0, of.1, within of.2)
      rising_last (Solved letters) is_answer = solved p is_answer
        where
          solved : (p : Option ShownPart) → IsAnswerTo g p b r left (Solved letters) → IsAnswerTo g p b r budget (Solved letters)
          solved None shorter = shorter
          solved (Some p) shorter = shorter
      rising_last Spent is_answer = spent_here r is.low (omega arith) is_answer
