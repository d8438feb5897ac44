-- Which answer to a claim is right, by a search that a guide leads, and for a budget of boards.
use Rattle.std.specs.Prelude.{◌≡◌, ℕ, ◌-◌, ◌<◌, ◌≤◌, ◌⊎◌, min, Bool, true, false, List, [], take, length, Err, None, Some}
use Rattle.std.specs.List.{list_all}
use Rattle.puz_board.specs.MovesTexts.{Solves, replay_of}
use Rattle.puz_goal.specs.Turning.{board_for, moves_for}
use Rattle.puz_goal.specs.declared.goals.Goal.{Goal}
use Rattle.set_sum.specs.Bounds.{IsBounded}
use Rattle.set_sum.specs.Bundles.{ShownBundle}
use Rattle.claim_text.specs.Claims as claims
use Rattle.claim_text.specs.Claims.{ShownAsks, ShownClaim}
use Rattle.claim_text.specs.Lines as line
use Rattle.claim_text.specs.Lines.{Told}
use Rattle.puz_board.specs.Solvable.{HasTheBlanksParity}
use Rattle.move_strings.specs.BoundParts.{ShownPart}
use Rattle.puz_search.specs.Answers.{IsAnswer, IsAnswerInTurn, IsAnswerOfPart, IsDeepened}
use Rattle.puz_search.specs.Guides.{IsGuide, LeavesOutReversals, ShownGuide}
use Rattle.puz_search.specs.declared.answers.SearchAnswer.TheVariants as search
use Rattle.puz_search.specs.declared.deepening.Deepened.TheVariants as deepened
use Rattle.byte_io.specs.Shelf.{Bytes}
use Rattle.pdb_verdict.specs.Lines.{line_of_fault}
use Rattle.pdb_verdict.specs.declared.verdicts.Fault.{Fault}
use Rattle.pdb_verdict.specs.declared.verdicts.Fault.TheVariants.{K1, K2, Moves}
use Rattle.pdb_prove.specs.declared.answers.Finding.{Finding}
use Rattle.pdb_prove.specs.declared.answers.Finding.TheVariants.{Bound, Optimum, Part, Refused, Shorter, Shortest}

-- ---- what is searched for

-- what a claim asks, with its moves as they are for the goal
abbrev pub asks_for : Goal → ShownAsks → ShownAsks
asks_for goal claims.shortest = claims.shortest
asks_for goal (claims.moves text) = claims.moves (moves_for goal text)
asks_for goal (claims.bound r) = claims.bound r
asks_for goal (claims.part r p) = claims.part r p

-- the claim with its board and its moves as they are for the goal: all searches are for the first goal
abbrev pub claim_for : Goal → ShownClaim → ShownClaim
claim_for goal claim = record { board = board_for goal claim.board; asks = asks_for goal claim.asks }

-- ---- what is found for a claim

module _ (guide : ShownGuide) (budget : ℕ) where
  -- the search for a solution of fewer moves refutes it, whatever it expands within the budget
  abbrev pub IsRefuted : List ℕ → ℕ → Type 0
  IsRefuted b r = (boards : ℕ) × IsAnswer guide b r budget (search.Refuted boards)

  -- for a board alone: a shortest solution; K1 where the budget is spent, with the bound that is proved before, if it is told; K2
  -- where the order of the numbers hasn't the blank's parity, or no solution has fewer than 254 moves
  abbrev pub IsShortestFor : List ℕ → Finding → Type 0
  IsShortestFor b (Shortest n letters) = Solves b letters.items n × IsBounded b n
  IsShortestFor b (Refused (K1 None)) = (bound : ℕ) × IsDeepened guide b budget (deepened.Spent bound)
  IsShortestFor b (Refused (K1 (Some bound))) = IsDeepened guide b budget (deepened.Spent bound)
  IsShortestFor b (Refused K2) = (¬ HasTheBlanksParity b) ⊎ IsDeepened guide b budget deepened.Beyond
  IsShortestFor b _ = ⊥

  -- for moves that are said to be a shortest solution: so they are; or a shorter one; or why the moves are refused; K1 where the
  -- budget is spent; K2 where they are more than 255, and no solution has fewer
  -- than 255
  abbrev pub IsOptimumFor : List ℕ → Bytes → Finding → Type 0
  IsOptimumFor b moves (Optimum n) = Solves b moves n × (n ≤ 255) × IsRefuted b n
  IsOptimumFor b moves (Shorter letters) =
      (n : ℕ) × Solves b moves n × IsAnswer guide b (min n 255) budget (search.Solved letters)
  IsOptimumFor b moves (Refused (Moves refused)) = replay_of b moves ≡ Err refused
  IsOptimumFor b moves (Refused (K1 None)) = (n : ℕ) × Solves b moves n × IsAnswerInTurn guide None b (min n 255) budget search.Spent
  IsOptimumFor b moves (Refused K2) = (n : ℕ) × Solves b moves n × (255 < n) × IsRefuted b (min n 255)
  IsOptimumFor b moves _ = ⊥

  -- for a bound: it is one; or a solution of fewer moves; K1 where the budget is spent; K2 where the order of the numbers hasn't
  -- the blank's parity
  abbrev pub IsBoundFor : List ℕ → ℕ → Finding → Type 0
  IsBoundFor b r Bound = IsRefuted b r
  IsBoundFor b r (Shorter letters) = IsAnswer guide b r budget (search.Solved letters)
  IsBoundFor b r (Refused (K1 None)) = IsAnswerInTurn guide None b r budget search.Spent
  IsBoundFor b r (Refused K2) = ¬ HasTheBlanksParity b
  IsBoundFor b r _ = ⊥

  -- the search of a part refutes it, whatever it expands within the budget
  abbrev pub IsRefutedPart : List ℕ → ℕ → ShownPart → Type 0
  IsRefutedPart b r p = (boards : ℕ) × IsAnswerOfPart guide p b r budget (search.Refuted boards)

  -- for a part of a bound: it holds; or a solution of fewer moves, of whatever part; K1 where the budget is spent; K2 where the
  -- order of the numbers hasn't the blank's parity
  abbrev pub IsPartFor : List ℕ → ℕ → ShownPart → Finding → Type 0
  IsPartFor b r p Part = IsRefutedPart b r p
  IsPartFor b r p (Shorter letters) = IsAnswerOfPart guide p b r budget (search.Solved letters)
  IsPartFor b r p (Refused (K1 None)) = IsAnswerInTurn guide (Some p) b r budget search.Spent
  IsPartFor b r p (Refused K2) = ¬ HasTheBlanksParity b
  IsPartFor b r p _ = ⊥

  -- for what a claim asks of its board
  abbrev pub IsFoundOf : List ℕ → ShownAsks → Finding → Type 0
  IsFoundOf b claims.shortest found = IsShortestFor b found
  IsFoundOf b (claims.moves text) found = IsOptimumFor b text found
  IsFoundOf b (claims.bound r) found = IsBoundFor b r found
  IsFoundOf b (claims.part r p) found = IsPartFor b r p found

  -- for a claim
  abbrev pub IsFoundBy : ShownClaim → Finding → Type 0
  IsFoundBy claim found = IsFoundOf claim.board claim.asks found

-- for a claim, by a search that this bundle leads, and some automaton for boards of its side, which leaves out at least each move
-- that takes the one before it back
pub record IsFoundFor (v : ShownBundle) (budget : ℕ) (claim : ShownClaim) (found : Finding) : Type 0 where
  pub guide : ShownGuide
  pub is_guide : IsGuide guide
  pub leads : guide.bundle ≡ v
  pub leaves_out : LeavesOutReversals guide.steps
  pub is_found : IsFoundBy guide budget claim found

-- ---- what is told of it

-- the words of a refusal, which are its line without the line's end
abbrev pub words_of : Fault → Bytes
words_of refused = take (length (line_of_fault refused) - 1) (line_of_fault refused)

-- what is told of a board, of which a claim asks this, where this is found of the board for the goal
abbrev pub told_of : Goal → List ℕ → ShownAsks → Finding → Told
told_of goal b (claims.bound r) Bound = line.bounded r b
told_of goal b (claims.part r p) Part = line.part_bounded p r b
told_of goal b (claims.moves text) (Optimum n) = line.optimal n b text
told_of goal b asks (Shortest n letters) = line.optimal n b (moves_for goal letters.items)
told_of goal b asks (Shorter letters) = line.shorter (moves_for goal letters.items) (record { board = b; asks = asks })
told_of goal b asks (Refused refused) = line.refused (words_of refused) (record { board = b; asks = asks })
told_of goal b asks _ = line.refused [] (record { board = b; asks = asks })

-- this is told of the claim, for the goal, over the bundle and for the budget
pub record IsToldOf (goal : Goal) (v : ShownBundle) (budget : ℕ) (claim : ShownClaim) (told : Told) : Type 0 where
  pub found : Finding
  pub is_found : IsFoundFor v budget (claim_for goal claim) found
  pub is_told : told ≡ told_of goal claim.board claim.asks found

-- it is a yes
abbrev pub is_yes : Told → Bool
is_yes (line.bounded r b) = true
is_yes (line.part_bounded p r b) = true
is_yes (line.optimal n b moves) = true
is_yes (line.shorter moves claim) = false
is_yes (line.refused what claim) = false

-- all of them are
abbrev pub are_yes : List Told → Bool
are_yes told = list_all is_yes told

-- what is found is a yes to its claim
abbrev pub is_found_yes : Finding → Bool
is_found_yes Bound = true
is_found_yes Part = true
is_found_yes (Optimum n) = true
is_found_yes (Shortest n letters) = true
is_found_yes (Shorter letters) = false
is_found_yes (Refused refused) = false
