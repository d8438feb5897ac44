-- Searches below one threshold after the other, within a budget.
use Rattle.std.proofs.Common.{◌≡◌, ℕ, suc, ◌+◌, ◌-◌, ◌*◌, ◌^◌, ◌<◌, ◌≤◌, List, None, arith, refl, subst, sym}
use Rattle.puz_board.specs.Parity.{blank_parity}
use Rattle.puz_search.specs.Answers.{IsSpentAfter}
use Rattle.puz_search.specs.Guides.{ShownGuide}
use Rattle.puz_search.specs.Searches.{Fails, FailsInTurn, HasBoards}
use Rattle.pdb_keep.specs.GivenUp.{IsTooLong, search_guide}

-- the searches below the first thresholds fail, with what was spent of the budget
pub record IsWithin (g : ShownGuide) (b : List ℕ) (budget left bound : ℕ) : Type 0 where
  pub thresholds : ℕ
  pub reached : bound ≡ blank_parity b + 2 * thresholds
  pub spent : ℕ
  pub fails : FailsInTurn g None b thresholds spent
  pub sum : spent + left ≡ budget

module _ (g : ShownGuide) (b : List ℕ) (budget : ℕ) where
  -- no threshold is searched yet, and the whole budget is left
  pub within_first : (bound : ℕ) → bound ≡ blank_parity b → IsWithin g b budget budget bound
  within_first bound e = record {
    thresholds = 0;
    reached = omega (arith, e);
    spent = 0;
    fails = refl;
    sum = omega arith;
  }

  module _ (left bound : ℕ) (is : IsWithin g b budget left bound) where
    -- the bound of the next threshold
    next : blank_parity b + 2 * is.thresholds + 1 ≡ bound + 1
    next = let reached : bound ≡ blank_parity b + 2 * is.thresholds = is.reached in omega arith

    -- one threshold more
    pub within_next : (boards : ℕ) → Fails g (bound + 1) b 0 boards → boards ≤ left → IsWithin g b budget (left - boards) (bound + 2)
    within_next boards fails few = record {
      thresholds = suc is.thresholds;
      reached = let reached : bound ≡ blank_parity b + 2 * is.thresholds = is.reached in omega arith;
      spent = is.spent + boards;
      fails = (is.spent, boards, is.fails, subst (λ r. Fails g r b 0 boards) (sym next) fails, refl);
      sum = let sum : is.spent + left ≡ budget = is.sum in omega arith;
    }

    -- where the search below the next threshold has more boards than what is left, the budget is spent
    pub within_spent : (boards : ℕ) → HasBoards g (bound + 1) b 0 boards → left < boards → IsSpentAfter g b budget is.thresholds
    within_spent boards has more =
        let sum : is.spent + left ≡ budget = is.sum in (
          is.spent,
          boards,
          is.fails,
          omega arith,
          subst (λ r. HasBoards g r b 0 boards) (sym next) has,
          omega arith,
        )

    -- where that search expands many boards, the log may be too long
    pub within_long : g ≡ search_guide g.bundle → (boards : ℕ) → Fails g (bound + 1) b 0 boards → 2 ^ 28 ≤ boards → IsTooLong g.bundle b
    within_long e boards fails many = (
      is.thresholds,
      boards,
      subst (λ h. Fails h (blank_parity b + 2 * is.thresholds + 1) b 0 boards) e
          (subst (λ r. Fails g r b 0 boards) (sym next) fails),
      many,
    )
