-- What the steps of a maker's command answer: a result, or want of memory in its place.
use Rattle.std.specs.Prelude.{◌≡◌, ⊤, ℕ, Bool, List, ◌∷◌, Option, Some, None, Result, Ok, Err, IfOk, IfSome, Vec, length}
use Rattle.puz_goal.specs.declared.goals.Goal.{Goal}
use Rattle.byte_io.specs.Shelf.{Bytes}
use Rattle.pdb_request.specs.declared.requests.Solve.{Solve}
use Rattle.pdb_run.specs.Answers.{IsMadeBy, all_bytes}
use Rattle.pdb_run.specs.declared.answers.CommandAnswer.{CommandAnswer}
use Rattle.pdb_run.specs.declared.answers.Unanswered.{Unanswered}
use Rattle.set_sum.specs.Bundles.{ShownBundle}
use Rattle.pdb_verdict.specs.Bound.{TakesMemoryForBound}
use Rattle.pdb_verdict.specs.Refusals.{IsCauseBy}
use Rattle.pdb_verdict.specs.declared.verdicts.Fault.{Fault}
use Rattle.pdb_verdict.specs.declared.verdicts.Fault.TheVariants as fault
use Rattle.puz_make.specs.Faults.{IsOutOfReach}
use Rattle.pdb_keep.specs.GivenUp.{IsSpent, IsTooLong}
use Rattle.pdb_keep.specs.MakeTable.{ArePattern, IsUnbuilt}
use Rattle.pdb_keep.specs.Solve.{IsMade, IsSearchable, IsUnmade, TellsSearch, letters_of}
use Rattle.pdb_keep.specs.declared.made.Made.{Made}

-- why a maker of a table builds none, or want of memory, which comes of patterns alone
abbrev pub IsCauseForBuild : ℕ → ℕ → Fault → Type 0
IsCauseForBuild side mask cause = IsCauseBy (IsUnbuilt side mask) (ArePattern side mask) cause

-- why a search makes no log, or want of memory, which comes where the check of the tables takes some
abbrev pub IsCauseForSearch : Goal → Bool → ℕ → Bytes → Bytes → List Bytes → Fault → Type 0
IsCauseForSearch goal fold budget text sets tables cause = IsCauseBy (IsUnmade goal fold budget text sets tables) (TakesMemoryForBound text tables) cause

-- a search of a board may give up for this: its budget is spent, the board is out of reach, or the log may be too long
abbrev pub IsGivenUp : ShownBundle → List ℕ → ℕ → Fault → Type 0
IsGivenUp v b budget (fault.K1 told) = IsSpent v b budget told
IsGivenUp v b budget fault.K2 = IsOutOfReach v b
IsGivenUp v b budget fault.K5 = IsTooLong v b
IsGivenUp v b budget fault.Memory = ⊤
IsGivenUp v b budget _ = ⊥

-- what comes of a search: it is made, or what was made is wrong, or this is why nothing is
abbrev pub CameTo : Goal → Bool → ℕ → Bytes → Bytes → List Bytes → Result (Option Made) Fault → Type 0
CameTo goal fold budget text sets tables (Ok (Some made)) = IsMade goal fold text sets tables made.moves.items made.log.items made.count
CameTo goal fold budget text sets tables (Ok None) = IsSearchable goal fold text sets tables
CameTo goal fold budget text sets tables (Err cause) = IsCauseForSearch goal fold budget text sets tables cause

-- it has as many moves as it says, where it is made
abbrev pub HasItsMoves : Result (Option Made) Fault → Type 0
HasItsMoves outcome = IfOk outcome (λ made. IfSome made (λ made. length (letters_of made.moves.items) ≡ made.count))

module _ {A : Type 0} where
  -- the files that were read for a search, in order
  abbrev pub search_read : Solve (Vec ℕ A) → List Bytes
  search_read search = search.board.items ∷ search.sets.items ∷ all_bytes search.tables.items

  -- the answer tells what comes of a search over them, or there is none for want of memory or since what was made is wrong
  abbrev pub IsSearchAnswer : Solve (Vec ℕ A) → Result CommandAnswer Unanswered → Type 0
  IsSearchAnswer search answer =
      let text = search.board.items in
      let sets = search.sets.items in
      let tables = all_bytes search.tables.items in
      IsMadeBy (TellsSearch search.goal search.fold search.budget text sets tables) (TakesMemoryForBound text tables)
      (IsSearchable search.goal search.fold text sets tables) answer
