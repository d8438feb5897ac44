-- What is told as a yes is true.
use Rattle.std.proofs.Common.{◌≤◌, ℕ, List, [], ◌∷◌, ◌++◌, sym, subst}
use Rattle.std.specs.Prelude.{⊤}
use Rattle.std.specs.List.{AllByRecursion, AllZip}
use Rattle.puz_board.specs.Boards.{IsBoard}
use Rattle.puz_board.specs.MovesTexts.{Solves}
use Rattle.puz_goal.specs.Goals.{SolvesFor}
use Rattle.puz_goal.specs.Turning.{board_for, moves_for}
use Rattle.puz_goal.specs.declared.goals.Goal.{Goal}
use Rattle.puz_goal.proofs.LetterLemmas.{moves_for-twice}
use Rattle.puz_goal.proofs.SolvingLemmas.{bounded_for, solved_for}
use Rattle.move_strings.specs.BoundParts.{IsPart}
use Rattle.set_sum.specs.Bundles.{ShownBundle}
use Rattle.puz_search.specs.Guides.{ShownGuide}
use Rattle.claim_text.specs.Claims as claims
use Rattle.claim_text.specs.Claims.{IsClaim, IsClaimOf, ShownAsks, ShownClaim}
use Rattle.claim_text.specs.Lines.{Told}
use Rattle.pdb_prove.specs.Answers.{IsFoundOf, IsToldOf, asks_for, told_of}
use Rattle.pdb_prove.specs.Laws.{IsTrueFor}
use Rattle.pdb_prove.specs.declared.answers.Finding.{Finding}
use Rattle.pdb_prove.specs.declared.answers.Finding.TheVariants.{Bound, Optimum, Part, Refused, Shorter, Shortest}

-- ---- claims

-- where something is said of a part, it is one, of a bound that is at most 255
abbrev pub IsOfPart : ShownAsks → Type 0
IsOfPart claims.shortest = ⊤
IsOfPart (claims.moves text) = ⊤
IsOfPart (claims.bound n) = ⊤
IsOfPart (claims.part n p) = IsPart p × (n ≤ 255)

-- so it is with each claim, and its board is one
abbrev pub HaveBoards : List ShownClaim → Type 0
HaveBoards all = AllByRecursion (λ claim. IsBoard claim.board × IsOfPart claim.asks) all

claim_board : (line b : List ℕ) (asks : ShownAsks) → IsClaimOf line b asks → IsBoard b × IsOfPart asks
claim_board line b claims.shortest is = (is.board.board, tt)
claim_board line b (claims.moves text) is = (is.board.board, tt)
claim_board line b (claims.bound n) is = (is.board.board, tt)
claim_board line b (claims.part n p) is = (is.board.board, (is.spelt.is, is.spelt.small))

-- the boards of claims that are read are boards
pub claims_boards : (lines : List (List ℕ)) (all : List ShownClaim) → AllZip IsClaim lines all → HaveBoards all
claims_boards [] [] each = tt
claims_boards [] (claim ∷ all) each = absurd each
claims_boards (line ∷ lines) [] each = absurd each
claims_boards (line ∷ lines) (claim ∷ all) each = (claim_board line claim.board claim.asks each.0, claims_boards lines all each.1)

-- and those of the first of them
pub first_boards : (first others : List ShownClaim) → HaveBoards (first ++ others) → HaveBoards first
first_boards [] others boards = tt
first_boards (claim ∷ first) others boards = (boards.0, first_boards first others boards.1)

-- ---- what is told

-- the moves of a solution of the board for the goal are, turned, one of the board
turned_solve : (goal : Goal) (b letters : List ℕ) (n : ℕ) → IsBoard b → Solves (board_for goal b) letters n → SolvesFor goal b (moves_for goal letters) n
turned_solve goal b letters n board solves =
    solved_for goal b (moves_for goal letters) n board
    (subst (λ text. Solves (board_for goal b) text n) (sym (moves_for-twice goal letters)) solves)

module _ (goal : Goal) (guide : ShownGuide) (budget : ℕ) (b : List ℕ) where
  -- what is found for what a claim asks is told truly
  found_true : (asks : ShownAsks) (found : Finding) → IsBoard b × IsOfPart asks → IsFoundOf guide budget (board_for goal b) (asks_for goal asks) found
      → IsTrueFor goal (told_of goal b asks found)
  found_true (claims.bound r) Bound board is = (board.0, bounded_for goal b r board.0 is.1.0)
  found_true (claims.bound r) (Optimum n) board is = absurd is
  found_true (claims.bound r) (Shortest n letters) board is = absurd is
  found_true (claims.bound r) (Shorter letters) board is = tt
  found_true (claims.bound r) (Refused refused) board is = tt
  found_true (claims.bound r) Part board is = absurd is
  found_true (claims.part r p) Part board is = (board.0, board.1.0, board.1.1, is.1.0)
  found_true (claims.part r p) Bound board is = absurd is
  found_true (claims.part r p) (Optimum n) board is = absurd is
  found_true (claims.part r p) (Shortest n letters) board is = absurd is
  found_true (claims.part r p) (Shorter letters) board is = tt
  found_true (claims.part r p) (Refused refused) board is = tt
  found_true (claims.moves text) Part board is = absurd is
  found_true (claims.moves text) Bound board is = absurd is
  found_true (claims.moves text) (Optimum n) board is =
      (board.0, solved_for goal b text n board.0 is.0, bounded_for goal b n board.0 is.2.1.0)
  found_true (claims.moves text) (Shortest n letters) board is = absurd is
  found_true (claims.moves text) (Shorter letters) board is = tt
  found_true (claims.moves text) (Refused refused) board is = tt
  found_true claims.shortest Part board is = absurd is
  found_true claims.shortest Bound board is = absurd is
  found_true claims.shortest (Optimum n) board is = absurd is
  found_true claims.shortest (Shortest n letters) board is =
      (board.0, turned_solve goal b letters.items n board.0 is.0, bounded_for goal b n board.0 is.1)
  found_true claims.shortest (Shorter letters) board is = absurd is
  found_true claims.shortest (Refused refused) board is = tt

-- so is each of them
pub each_true : (goal : Goal) (v : ShownBundle) (budget : ℕ) (all : List ShownClaim) (told : List Told) → HaveBoards all
    → AllZip (IsToldOf goal v budget) all told → AllByRecursion (IsTrueFor goal) told
each_true goal v budget [] [] boards each = tt
each_true goal v budget [] (t ∷ told) boards each = absurd each
each_true goal v budget (claim ∷ all) [] boards each = absurd each
each_true goal v budget (claim ∷ all) (t ∷ told) boards each =
    let is = each.0 in
    let by = is.is_found in (
      subst (IsTrueFor goal) (sym is.is_told) (found_true goal by.guide budget claim.board claim.asks is.found boards.0 by.is_found),
      each_true goal v budget all told boards.1 each.1,
    )
