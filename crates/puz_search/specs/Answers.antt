-- What searches answer.
use Rattle.std.specs.Prelude.{◌≡◌, ℕ, ◌+◌, ◌*◌, ◌<◌, ◌≤◌, List, Option, None, Some}
use Rattle.puz_board.specs.MovesTexts.{Solves}
use Rattle.puz_board.specs.Parity.{blank_parity}
use Rattle.move_strings.specs.BoundParts.{IsPartBounded, ShownPart}
use Rattle.set_sum.specs.Bounds.{IsBounded}
use Rattle.puz_search.specs.Guides.{ShownGuide}
use Rattle.puz_search.specs.Searches.{Fails, FailsInTurn, HasBoards, SearchHas, SearchOfPartFails, SearchOfPartHas}
use Rattle.puz_search.specs.declared.answers.SearchAnswer.{SearchAnswer}
use Rattle.puz_search.specs.declared.answers.SearchAnswer.TheVariants as answer
use Rattle.puz_search.specs.declared.deepening.Deepened.{Deepened}
use Rattle.puz_search.specs.declared.deepening.Deepened.TheVariants as deepened

-- ---- below a bound

-- the letters are a solution of the board, of fewer than r moves
abbrev pub IsShorter : List ℕ → ℕ → List ℕ → Type 0
IsShorter b r letters = (moves : ℕ) × (moves < r) × Solves b letters moves

-- No solution of the board has fewer than r moves, and the search for one fails with so many boards, within the budget; or these
-- letters are one that has; or the search has more boards than the budget.
abbrev pub IsAnswer : ShownGuide → List ℕ → ℕ → ℕ → SearchAnswer → Type 0
IsAnswer g b r budget (answer.Refuted boards) = IsBounded b r × Fails g r b 0 boards × (boards ≤ budget)
IsAnswer g b r budget (answer.Solved letters) = IsShorter b r letters.items
IsAnswer g b r budget answer.Spent = (boards : ℕ) × HasBoards g r b 0 boards × (budget < boards)

-- The same of a part of the bound: where it is refuted, the least solution of fewer than r moves isn't of the part. A solution
-- may be of any part.
abbrev pub IsAnswerOfPart : ShownGuide → ShownPart → List ℕ → ℕ → ℕ → SearchAnswer → Type 0
IsAnswerOfPart g p b r budget (answer.Refuted boards) = IsPartBounded p r b × SearchOfPartFails g p r b boards × (boards ≤ budget)
IsAnswerOfPart g p b r budget (answer.Solved letters) = IsShorter b r letters.items
IsAnswerOfPart g p b r budget answer.Spent = (boards : ℕ) × SearchOfPartHas g p r b boards × (budget < boards)

-- of a whole bound, or of a part where one is said
abbrev pub IsAnswerTo : ShownGuide → Option ShownPart → List ℕ → ℕ → ℕ → SearchAnswer → Type 0
IsAnswerTo g None b r budget answer = IsAnswer g b r budget answer
IsAnswerTo g (Some p) b r budget answer = IsAnswerOfPart g p b r budget answer

-- ---- threshold by threshold

-- the searches below the first k thresholds fail in turn within the budget, and the search below r, which comes next, has more boards
-- than what they leave of it
abbrev pub IsSpentBelow : ShownGuide → Option ShownPart → List ℕ → ℕ → ℕ → ℕ → Type 0
IsSpentBelow g p b budget k r =
    (spent boards : ℕ) × FailsInTurn g p b k spent × (spent ≤ budget) × SearchHas g p r b boards × (budget < spent + boards)

-- so it is below the next threshold
abbrev pub IsSpentAfter : ShownGuide → List ℕ → ℕ → ℕ → Type 0
IsSpentAfter g b budget k = IsSpentBelow g None b budget k (blank_parity b + 2 * k + 1)

-- An answer as it is to the search below a bound, or of a part of it. But the budget is for the searches below lower thresholds too,
-- which come first: it is spent where one below the bound, or below less, has more boards than those below the first k thresholds
-- leave, none of which is greater.
abbrev pub IsAnswerInTurn : ShownGuide → Option ShownPart → List ℕ → ℕ → ℕ → SearchAnswer → Type 0
IsAnswerInTurn g p b r budget answer.Spent = (k bound : ℕ) × (2 * k ≤ bound) × (bound ≤ r) × IsSpentBelow g p b budget k bound
IsAnswerInTurn g p b r budget answer = IsAnswerTo g p b r budget answer

-- These letters are a shortest solution. Or no solution has fewer moves than this bound, and the search below the next threshold
-- and those before it have more boards than the budget. Or no solution has fewer than 254 moves.
abbrev pub IsDeepened : ShownGuide → List ℕ → ℕ → Deepened → Type 0
IsDeepened g b budget (deepened.Shortest letters) = (moves : ℕ) × Solves b letters.items moves × IsBounded b moves
IsDeepened g b budget (deepened.Spent bound) =
    IsBounded b bound × ((k : ℕ) × (bound ≡ blank_parity b + 2 * k) × IsSpentAfter g b budget k)
IsDeepened g b budget deepened.Beyond = IsBounded b 254
