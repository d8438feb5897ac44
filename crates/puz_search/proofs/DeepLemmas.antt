-- Bounds of one parity: all solutions of a board have it.
use Rattle.std.proofs.Common.{◌≡◌, ℕ, suc, ◌+◌, ◌-◌, ◌*◌, ◌%◌, ◌<◌, ◌≤◌, List, None, length, refl, subst, arith}
use Rattle.puz_board.specs.Boards.{IsBoardOf}
use Rattle.puz_board.specs.MovesTexts.{Solves}
use Rattle.puz_board.specs.Parity.{blank_parity}
use Rattle.puz_board.proofs.ParityLemmas.{solution_parity}
use Rattle.set_sum.specs.Bounds.{IsBounded}
use Rattle.puz_search.specs.Answers.{IsDeepened, IsShorter}
use Rattle.puz_search.specs.Guides.{ShownGuide}
use Rattle.puz_search.specs.Searches.{Fails, FailsInTurn, HasBoards}
use Rattle.puz_search.specs.declared.deepening.Deepened.TheVariants.{Beyond, Spent}

module _ (n : ℕ) (b : List ℕ) (good : IsBoardOf n b) where
  -- no solution of a board has fewer moves than the parity of its blank
  pub first_bound : (bound : ℕ) → bound ≡ blank_parity b → IsBounded b bound
  first_bound bound e path solves = let parity : length path % 2 ≡ blank_parity b = solution_parity n b good path solves in omega arith

  -- where the bound has the blank's parity and no solution has just as many moves or fewer, none has fewer than two more
  pub next_bound : (bound : ℕ) → bound % 2 ≡ blank_parity b → IsBounded b (bound + 1) → IsBounded b (bound + 2)
  next_bound bound e bounds path solves =
      let parity : length path % 2 ≡ blank_parity b = solution_parity n b good path solves in
      let low : bound + 1 ≤ length path = bounds path solves in
      omega arith

-- one move fewer than the bound is none
pub found_bound : (b : List ℕ) (bound : ℕ) (letters : List ℕ) → IsBounded b bound → IsShorter b (bound + 1) letters → Solves b letters bound
found_bound b bound letters bounds is =
    let low : bound ≤ length is.2.path = bounds is.2.path is.2.solution in
    let count : length is.2.path ≡ is.0 = is.2.count in
    let less : is.0 < bound + 1 = is.1 in
    let same : is.0 ≡ bound = omega arith in
    subst (Solves b letters) same is.2

-- ---- thresholds

-- the searches below the first thresholds failed, with what was spent of the budget, and no solution has fewer moves than the bound
pub record IsDeep (g : ShownGuide) (b : List ℕ) (budget left bound : ℕ) : Type 0 where
  pub bounds : IsBounded b bound
  pub small : bound ≤ 255
  pub thresholds : ℕ
  pub reached : bound ≡ blank_parity b + 2 * thresholds
  pub spent : ℕ
  pub fails : FailsInTurn g None b thresholds spent
  pub sum : spent + left ≡ budget

module _ (g : ShownGuide) (b : List ℕ) (good : IsBoardOf g.bundle.side b) (budget : ℕ) where
  -- with the blank's parity as bound, no threshold has been searched yet, and the whole budget is left
  pub deep_first : (bound : ℕ) → bound ≡ blank_parity b → bound ≤ 1 → IsDeep g b budget budget bound
  deep_first bound e bit = record {
    bounds = first_bound g.bundle.side b good bound e;
    small = omega arith;
    thresholds = 0;
    reached = omega arith;
    spent = 0;
    fails = refl;
    sum = omega arith;
  }

  -- one threshold more
  pub deep_next : (left bound boards : ℕ) → bound < 254 → blank_parity b ≤ 1 → IsDeep g b budget left bound → IsBounded b (bound + 1)
      → Fails g (bound + 1) b 0 boards → boards ≤ left
      → IsDeep g b budget (left - boards) (bound + 2)
  deep_next left bound boards low bit is bounds fails few =
      let reached : bound ≡ blank_parity b + 2 * is.thresholds = is.reached in
      let same : bound + 1 ≡ blank_parity b + 2 * is.thresholds + 1 = omega arith in
      record {
        bounds = next_bound g.bundle.side b good bound (omega arith) bounds;
        small = omega arith;
        thresholds = suc is.thresholds;
        reached = omega arith;
        spent = is.spent + boards;
        fails = (is.spent, boards, is.fails, subst (λ r. Fails g r b 0 boards) same fails, refl);
        sum = let sum = is.sum in omega arith;
      }

  -- where the budget ended below a threshold
  pub deep_spent : (left bound : ℕ) → IsDeep g b budget left bound → (boards : ℕ) × HasBoards g (bound + 1) b 0 boards × (left < boards)
      → IsDeepened g b budget (Spent bound)
  deep_spent left bound is more =
      let reached : bound ≡ blank_parity b + 2 * is.thresholds = is.reached in
      let same : bound + 1 ≡ blank_parity b + 2 * is.thresholds + 1 = omega arith in
      let sum : is.spent + left ≡ budget = is.sum in
      let over : left < more.0 = more.2 in
      let here = subst (λ r. HasBoards g r b 0 more.0) same more.1 in
      (is.bounds, (is.thresholds, is.reached, (is.spent, more.0, is.fails, omega arith, here, omega arith)))

  -- where no threshold is left
  pub deep_beyond : (left bound : ℕ) → 254 ≤ bound → IsDeep g b budget left bound → IsDeepened g b budget Beyond
  deep_beyond left bound high is path solves = let low : bound ≤ length path = is.bounds path solves in omega arith
