-- The files of a check of a log have one result, and what an optimum says.
use Rattle.std.proofs.Common.{◌≡◌, ◌∙◌, ℕ, List, Option, Some, None, Result, Ok, Err, ap, arith, eq-eqb, inl, inr, ne_eqb, refl, subst, sym}
use Rattle.std.proofs.lemmas.Bool.{cases_eq}
use Rattle.puz_board.specs.BoardTexts.{Spells, board_of_text}
use Rattle.puz_board.specs.PuzzleTexts.{puzzle_parts}
use Rattle.puz_board.proofs.SpellingLemmas.{board_of_text-spelled, spelled-board_of_text}
use Rattle.puz_goal.specs.declared.goals.Goal.{Goal}
use Rattle.puz_goal.specs.Turning.{board_for}
use Rattle.puz_goal.proofs.SolvingLemmas.{bounded_for}
use Rattle.byte_io.specs.Shelf.{Bytes}
use Rattle.pdb_request.specs.declared.requests.LogClaim.{LogClaim}
use Rattle.pdb_request.specs.declared.requests.LogClaim.TheVariants.{Bound, Optimum}
use Rattle.pdb_verdict.specs.BegunClaims.{begun}
use Rattle.pdb_verdict.specs.Bound.{IsBoundFor, IsBoundResult, TakesMemoryForBound}
use Rattle.pdb_verdict.specs.Inputs.{LogFiles, log_claim}
use Rattle.pdb_verdict.specs.Optimal.{IsFoundForPuzzle, IsLeastCount, IsOptimumResult, TakesMemoryForOptimum}
use Rattle.pdb_verdict.specs.Refusals.{IsFoundBy, IsTold}
use Rattle.pdb_verdict.specs.Replay.{solved_parts}
use Rattle.pdb_verdict.specs.Steps.{IsFoundFor, answer_with, as_optimum}
use Rattle.pdb_verdict.specs.Verdicts.{IsAnswerTo}
use Rattle.pdb_verdict.specs.declared.claims.BegunClaim.{BegunClaim}
use Rattle.pdb_verdict.specs.declared.verdicts.Fault.{Fault}
use Rattle.pdb_verdict.specs.declared.verdicts.Verdict.{Verdict}
use Rattle.pdb_verdict.proofs.BoundLemmas.{found_one, found_some, proved_bounds}
use Rattle.pdb_verdict.proofs.RefusalLemmas.{Behind, IsOne, after, by_result, cause_by, found_told, one_behind, one_by, one_made, settled_cause, stays}
use Rattle.pdb_verdict.proofs.ReplayLemmas.{parts-solved, solved-parts}

-- no puzzle text wants memory
never_memory : (goal : Goal) (parts : Option (Bytes × Bytes)) → ¬ (solved_parts goal parts ≡ Err Fault.Memory)
never_memory goal parts same = grind arith

module _ (files : LogFiles) where
  abbrev For : List ℕ → Result ℕ Fault → Type 0
  For board found = IsBoundFor files.fold board files.sets files.log files.tables found

  abbrev ByMemory : List ℕ → Result ℕ Fault → Type 0
  ByMemory board found = IsFoundFor files.fold board files.sets files.log files.tables found

  -- the board turned for the goal of the files
  abbrev turned : List ℕ → List ℕ
  turned board = board_for files.goal board

  -- ---- what is found for the board makes the result

  refused_text : (board : List ℕ) → Spells files.text board → (refused : Fault) → For (turned board) (Err refused) → IsBoundResult files (Err refused)
  refused_text board spelt (Fault.Board f) is = absurd is
  refused_text board spelt _ is = record { board = board; spelt = spelt; found_for = is }

  -- of a text
  pub bound_by : (board : List ℕ) (found : Result ℕ Fault) → Spells files.text board → ByMemory (turned board) found
      → IsFoundBy (IsBoundResult files) (TakesMemoryForBound files.text files.tables) found
  bound_by board (Ok bound) spelt is = record { board = board; spelt = spelt; found_for = is }
  bound_by board (Err fault) spelt is = cause_by (refused_text board spelt) (λ takes. (board, spelt, takes)) fault is

  module _ (board : List ℕ) (n : ℕ) (parts : solved_parts files.goal (puzzle_parts files.text) ≡ Ok (board, n)) where
    found_for_puzzle : (found : Result ℕ Fault) → For board found → IsFoundForPuzzle files n found
    found_for_puzzle found is =
        let solved = solved-parts files.goal files.text board n parts in
        record { solved = solved.0; found_for = subst (λ b. For b found) (sym solved.1) is }

    refused_puzzle : (refused : Fault) → For board (Err refused) → IsOptimumResult files (Err refused)
    refused_puzzle refused is = inr (inl (n, found_for_puzzle (Err refused) is))

    bound_as_optimum : (bound : ℕ) → For board (Ok bound)
        → IsFoundBy (IsOptimumResult files) (TakesMemoryForOptimum files.goal files.text files.tables) (as_optimum n (Ok bound))
    bound_as_optimum bound is =
        let found = found_for_puzzle (Ok bound) is in
        elim (cases_eq n bound) [
          | inl same ↦ rw (eq-eqb n bound same) (subst (λ m. IsFoundForPuzzle files m (Ok bound)) same found)
          | inr other ↦ rw (ne_eqb n bound other) (inr (inr (n, bound, found, other, refl)))
        ]

    -- of a puzzle text
    pub optimum_by : (found : Result ℕ Fault) → ByMemory board found
        → IsFoundBy (IsOptimumResult files) (TakesMemoryForOptimum files.goal files.text files.tables) (as_optimum n found)
    optimum_by (Ok bound) is = bound_as_optimum bound is
    optimum_by (Err fault) is = cause_by refused_puzzle (λ takes. (n, (solved-parts files.goal files.text board n parts).0, takes)) fault is

  -- so it makes the answer
  pub claim_answered : (claim : LogClaim) (start : BegunClaim) (found : Result ℕ Fault) → begun files.goal claim files.text ≡ Ok start
      → ByMemory start.board found → IsAnswerTo (log_claim claim files) (answer_with start.moves found)
  claim_answered Bound start found same is = by_result (board_of_text files.text)
      (λ board spelt.
      let first : start.board ≡ turned board = grind arith in
      let none : start.moves ≡ None = grind arith in
      rw none (found_told Verdict.Bound (IsBoundResult files) (TakesMemoryForBound files.text files.tables) _
      (bound_by board found (spelled-board_of_text files.text board spelt) (rw first at is))))
      (λ refused why. let clash : ⊥ = grind arith in absurd clash)
  claim_answered Optimum start found same is = by_result (solved_parts files.goal (puzzle_parts files.text))
      (λ read parts.
      let first : start.board ≡ read.0 = grind arith in
      let some : start.moves ≡ Some read.1 = grind arith in
      rw some (found_told Verdict.Optimal (IsOptimumResult files) (TakesMemoryForOptimum files.goal files.text files.tables) _
      (optimum_by read.0 read.1 parts found (rw first at is))))
      (λ refused why. let clash : ⊥ = grind arith in absurd clash)

  -- and a text that is refused is the answer
  pub claim_refused : (claim : LogClaim) (refused : Fault) → begun files.goal claim files.text ≡ Err refused
      → IsAnswerTo (log_claim claim files) (Err refused)
  claim_refused Bound refused same = by_result (board_of_text files.text)
      (λ board spelt. let clash : ⊥ = grind arith in absurd clash)
      (λ why is.
      let told : refused ≡ Fault.Board why = grind arith in
      rw told (Err (Fault.Board why), is, refl))
  claim_refused Optimum refused same = by_result (solved_parts files.goal (puzzle_parts files.text))
      (λ read parts. let clash : ⊥ = grind arith in absurd clash)
      (λ why is.
      let told : refused ≡ why = grind arith in
      let result : IsTold Verdict.Optimal (IsOptimumResult files) (Err refused) = (Err refused, inl (rw told is), refl) in
      settled_cause (λ r. IsTold Verdict.Optimal (IsOptimumResult files) (Err r)) _ refused
      (λ memory. never_memory files.goal (puzzle_parts files.text) (is ∙ ap (λ x. Err x) (sym told ∙ memory))) result)

  -- ---- there is a result

  text_found : (board : List ℕ) → Spells files.text board → (found : Result ℕ Fault) → For (turned board) found → IsBoundResult files found
  text_found board spelt (Ok bound) is = record { board = board; spelt = spelt; found_for = is }
  text_found board spelt (Err refused) is = refused_text board spelt refused is

  -- of a bound
  pub bound_some : (found : Result ℕ Fault) × IsBoundResult files found
  bound_some = by_result (board_of_text files.text)
      (λ board is.
      let found = found_some files.fold (turned board) files.sets files.log files.tables in
      (found.0, text_found board (spelled-board_of_text files.text board is) found.0 found.1))
      (λ refused is. (Err (Fault.Board refused), is))

  puzzle_found : (board : List ℕ) (n : ℕ) → solved_parts files.goal (puzzle_parts files.text) ≡ Ok (board, n) → (found : Result ℕ Fault) → For board found
      → (result : Result ℕ Fault) × IsOptimumResult files result
  puzzle_found board n parts (Err refused) is = (Err refused, refused_puzzle board n parts refused is)
  puzzle_found board n parts (Ok bound) is =
      let found = found_for_puzzle board n parts (Ok bound) is in
      elim (cases_eq n bound) [
        | inl same ↦ (Ok bound, subst (λ m. IsFoundForPuzzle files m (Ok bound)) same found)
        | inr other ↦ (Err (Fault.O1 n bound), inr (inr (n, bound, found, other, refl)))
      ]

  -- of an optimum
  pub optimum_some : (found : Result ℕ Fault) × IsOptimumResult files found
  optimum_some = by_result (solved_parts files.goal (puzzle_parts files.text))
      (λ read is.
      let found = found_some files.fold read.0 files.sets files.log files.tables in
      puzzle_found read.0 read.1 is found.0 found.1)
      (λ refused is. (Err refused, inl is))

  -- ---- one result

  by_text : (result : Result ℕ Fault) → IsBoundResult files result
      → Behind (λ r. board_of_text files.text ≡ r) (λ f. Err (Fault.Board f)) (λ board. For (turned board)) result
  by_text (Ok n) is = after is.board (board_of_text-spelled files.text is.board is.spelt) is.found_for
  by_text (Err (Fault.Board f)) is = stays f is
  by_text (Err _) is = after is.board (board_of_text-spelled files.text is.board is.spelt) is.found_for

  -- of a bound there is one
  pub IsBoundResult-one : IsOne (IsBoundResult files)
  IsBoundResult-one = one_by by_text (one_behind (λ r q is also. sym is ∙ also)
      (λ board. found_one files.fold (turned board) files.sets files.log files.tables))

  abbrev FoundAs : ℕ → List ℕ → Result ℕ Fault → Type 0
  FoundAs n board result = (found : Result ℕ Fault) × For board found × (result ≡ as_optimum n found)

  abbrev ByPuzzle : Result ℕ Fault → Type 0
  ByPuzzle = Behind (λ r. solved_parts files.goal (puzzle_parts files.text) ≡ r) (λ f. Err f) (λ read. FoundAs read.1 read.0)

  by_puzzle : (result : Result ℕ Fault) → IsOptimumResult files result → ByPuzzle result
  by_puzzle (Ok n) is =
      after (turned is.solved.board, n) (parts-solved files.goal files.text n is.solved) (Ok n, is.found_for, rw (eq-eqb n n refl))
  by_puzzle (Err refused) (inl is) = stays refused is
  by_puzzle (Err refused) (inr (inl (n, is))) =
      after (turned is.solved.board, n) (parts-solved files.goal files.text n is.solved) (Err refused, is.found_for, refl)
  by_puzzle (Err refused) (inr (inr (n, bound, is, other, same))) =
      after (turned is.solved.board, n) (parts-solved files.goal files.text n is.solved) (Ok bound, is.found_for, rw (ne_eqb n bound other, same))

  -- of an optimum there is one
  pub IsOptimumResult-one : IsOne (IsOptimumResult files)
  IsOptimumResult-one = one_by by_puzzle (one_behind (λ r q is also. sym is ∙ also)
      (λ read. one_made (as_optimum read.1) (found_one files.fold read.0 files.sets files.log files.tables)))

  -- ---- what an optimum says

  -- no solution of fewer moves than this one makes it a shortest
  pub proved_least : (n : ℕ) (h : IsFoundForPuzzle files n (Ok n)) → IsLeastCount files.goal h.solved.board n
  proved_least n h =
      let solves = h.solved.solved in
      let board = h.solved.board in
      let bounded = proved_bounds files.fold (turned board) files.sets files.log files.tables n h.found_for in
      record {
        path = solves.path;
        solution = solves.solution;
        count = solves.count;
        bounded = bounded_for files.goal board n h.solved.spelt.board bounded;
      }
