-- What comes of makers.
use Rattle.std.proofs.Common.{◌≡◌, ◌≢◌, ◌∙◌, ℕ, suc, ◌+◌, ◌<◌, ◌≤◌, ◌^◌, Bool, List, [], ◌∷◌, ◌++◌, Option, Some, None, Result, Ok, Err, IfErr, IfOk}
use Rattle.std.proofs.Common.{IfSome, Vec, length, drop, get_or, ap, append_assoc, arith, length-append, refl, subst, sym}
use Rattle.std.proofs.lemmas.List.{drop_more, length-map, map-append}
use Rattle.std.proofs.lemmas.List.Elements.{filter_map-append}
use Rattle.puz_board.specs.BoardTexts.{Spells}
use Rattle.puz_board.specs.Masks.{numbers_of}
use Rattle.puz_board.specs.MovesTexts.{moves_of}
use Rattle.puz_goal.specs.declared.goals.Goal.{Goal}
use Rattle.puz_goal.specs.declared.goals.Goal.TheVariants.{First, Last}
use Rattle.puz_goal.proofs.TurnLemmas.{side_of-turned}
use Rattle.puz_board.specs.Boards.{IsBoard, side_of}
use Rattle.puz_goal.specs.Goals.{SolvesFor}
use Rattle.puz_goal.specs.Turning.{board_for}
use Rattle.puz_board.specs.Paths.{Leads}
use Rattle.puz_board.specs.declared.moves.Move.{Move}
use Rattle.puz_board.proofs.PuzzleLemmas.{puzzle_parts-puzzle}
use Rattle.pat_place.proofs.MaskLemmas.{numbers_of-one}
use Rattle.tab_file.specs.TableFiles.{IsTableFile}
use Rattle.byte_io.specs.Shelf.{Bytes}
use Rattle.pdb_request.specs.declared.requests.Solve.{Solve}
use Rattle.pdb_run.specs.Answers.{IsMadeBy}
use Rattle.pdb_run.specs.declared.answers.CommandAnswer.{CommandAnswer}
use Rattle.pdb_run.specs.declared.answers.Unanswered.{Unanswered}
use Rattle.pdb_run.specs.declared.answers.Unanswered.TheVariants.{Memory, Wrong}
use Rattle.pdb_verdict.specs.FileBundles.{AreRefused, IsCauseForBundle}
use Rattle.pdb_verdict.specs.Inputs.{log_files, table_file}
use Rattle.pdb_verdict.specs.Optimal.{IsOptimumResult}
use Rattle.pdb_verdict.specs.Replay.{IsSolvedPuzzle, puzzle_of}
use Rattle.pdb_verdict.specs.Table.{IsTableResult, IsTableTold, TakesMemoryForTable, exact_verdict}
use Rattle.pdb_verdict.specs.Verdicts.{IsAnswerTo}
use Rattle.pdb_verdict.specs.declared.verdicts.Fault.{Fault}
use Rattle.pdb_verdict.specs.declared.verdicts.Fault.TheVariants as fault
use Rattle.pdb_verdict.specs.declared.verdicts.Verdict.{Verdict}
use Rattle.pdb_verdict.proofs.BundleLemmas.{bundle_taken}
use Rattle.pdb_verdict.proofs.RefusalLemmas.{cause_by, found_settled, told_yes}
use Rattle.pdb_verdict.proofs.ReplayLemmas.{solved-puzzle, spelled-no_semicolon}
use Rattle.pdb_keep.specs.MakeTable.{SpeaksOf}
use Rattle.pdb_keep.specs.Solve.{AreForBoard, IsSolveReply, IsUnmade, SolveMakes, SolveTakesMemory, letter_of, letters_of}
use Rattle.pdb_keep.specs.Steps.{CameTo, HasItsMoves, IsCauseForSearch, IsGivenUp, IsSearchAnswer, search_read}
use Rattle.pdb_keep.specs.declared.solutions.TheConstants.{MOST_LETTERS}
use Rattle.pdb_keep.specs.declared.made.Made.{Made}

-- a turned board has the side of the board
pub side_for : (goal : Goal) (b : List ℕ) → IsBoard b → side_of (board_for goal b) ≡ side_of b
side_for First b is = refl
side_for Last b is = side_of-turned b is

-- ---- tables

-- a verdict on a file with the header of a pattern speaks of that pattern
pub own_table : (side mask : ℕ) (entries file : List ℕ) (said : Verdict) → mask < 2 ^ 32
    → IsTableFile (record { pattern = record { side = side; tiles = numbers_of mask }; entries = entries }) file
    → IsTableTold file (Ok said) → SpeaksOf side mask said
own_table side mask entries file said low is told =
    let yes = (told_yes exact_verdict (IsTableResult file) said).0 told in
    let exact = yes.1 in
    let of = exact.exact.is_file in
    let same_side : exact.table.pattern.side ≡ side = sym (ap (λ bytes. get_or bytes 5 0) of.begins) ∙ ap (λ bytes. get_or bytes 5 0) is.begins in
    let same_tiles : exact.table.pattern.tiles ≡ numbers_of mask = sym of.mask ∙ is.mask in
    rw yes.2 (exact.is_side ∙ same_side, numbers_of-one yes.0.1 mask exact.mask_low low (exact.is_mask ∙ same_tiles))

-- the answer on a file that was read tells the result, where memory isn't wanted
pub table_told : (file now : Bytes) (answer settled : Result Verdict Fault) → now ≡ file → settled ≡ answer → settled ≢ Err fault.Memory
    → IsAnswerTo (table_file now) answer → IsTableTold file settled
table_told file now answer settled same is there says =
    found_settled (IsTableTold file) (TakesMemoryForTable file) settled there (rw (same, sym is) at says)

-- ---- searches over a bundle

module _ (goal : Goal) (fold : Bool) (budget : ℕ) (text sets : Bytes) (files : List Bytes) (board : List ℕ) (spelt : Spells text board) where
  -- the board turned for its goal
  abbrev turned : List ℕ
  turned = board_for goal board

  -- what gives up over a bundle of the board's side is why no log is made
  pub given_up : (are_for : AreForBoard fold turned sets files) (why : Fault) → IsGivenUp are_for.bundle turned budget why
      → IsCauseForSearch goal fold budget text sets files why
  given_up are_for (fault.K1 told) is = record { board = board; spelt = spelt; unmade = record { are_for = are_for; spent = is } }
  given_up are_for fault.K2 is = record { board = board; spelt = spelt; unmade = record { are_for = are_for; out_of_reach = is } }
  given_up are_for fault.K5 is = record { board = board; spelt = spelt; unmade = record { are_for = are_for; too_long = is } }
  given_up are_for fault.Memory is = (board, spelt, bundle_taken fold files sets are_for.bundle are_for.is_bundle)
  given_up are_for _ is = absurd is

  unmade_of : (refused : Fault) → AreRefused fold files sets refused → IsUnmade goal fold budget text sets files refused
  unmade_of (fault.TableOf number refused) is = record { board = board; spelt = spelt; unmade = is }
  unmade_of (fault.Sets refused) is = record { board = board; spelt = spelt; unmade = is }
  unmade_of _ is = absurd is

  -- so is why there is no bundle
  pub no_bundle : (why : Fault) → IsCauseForBundle fold files sets why → IsCauseForSearch goal fold budget text sets files why
  no_bundle why is = cause_by unmade_of (λ takes. (board, spelt, takes)) why is

  -- so a search over one makes a log, or that is why
  pub search_came : (are_for : AreForBoard fold turned sets files) (r : Result (Option Made) Fault) → IfErr r (IsGivenUp are_for.bundle turned budget)
      → IfOk r (λ made. IfSome made (λ made.
      IsOptimumResult (log_files goal fold (puzzle_of text made.moves.items) sets made.log.items files) (Ok made.count)))
      → CameTo goal fold budget text sets files r
  search_came are_for (Ok (Some made)) why is = record { could = record { board = board; spelt = spelt; are_for = are_for }; is_result = is }
  search_came are_for (Ok None) why is = record { board = board; spelt = spelt; are_for = are_for }
  search_came are_for (Err why) gives is = given_up are_for why gives

-- ---- the puzzle text of a search

-- a solved puzzle has the text and the moves that its text was joined of
pub solved-moves : (goal : Goal) (text moves board : List ℕ) (n : ℕ) (solved : IsSolvedPuzzle goal (puzzle_of text moves) n)
    → Spells text board → Spells text solved.board × SolvesFor goal solved.board moves n
solved-moves goal text moves board n solved spelt =
    let parts = puzzle_parts-puzzle _ text moves (record { whole = refl; first = spelled-no_semicolon text board spelt }) in
    subst (λ (o : Option (Bytes × Bytes)). IfSome o (λ p. Spells p.0 solved.board × SolvesFor goal solved.board p.1 n))
    (sym (puzzle_parts-puzzle _ _ _ (solved-puzzle goal _ n solved)) ∙ parts) (solved.spelt, solved.solved)

-- ---- how many moves there are

led-length : (n c : ℕ) (moves : List Move) (path : List ℕ) → Leads n c moves path → length moves ≡ length path
led-length n c [] [] led = refl
led-length n c (m ∷ moves) (d ∷ path) led = ap suc (led-length n d moves path led.1)
led-length n c _ _ led = absurd led

-- so there are as many as are said, where a search makes some
pub made_moves : (goal : Goal) (fold : Bool) (budget : ℕ) (text sets : Bytes) (tables : List Bytes) (r : Result (Option Made) Fault)
    → CameTo goal fold budget text sets tables r → HasItsMoves r
made_moves goal fold budget text sets tables (Ok (Some made)) is =
    let moves = made.moves.items in
    let solves = (solved-moves goal text moves is.could.board made.count is.is_result.solved is.could.spelt).1 in
    length-map (moves_of moves) letter_of ∙ led-length _ _ (moves_of moves) solves.path solves.led ∙ solves.count
made_moves goal fold budget text sets tables (Ok None) is = tt
made_moves goal fold budget text sets tables (Err cause) is = tt

-- ---- what is told of a search

-- an answer on what was read is one on the inputs
pub search_answered : {A : Type 0} (inputs : List Bytes) (search : Solve (Vec ℕ A)) (told : Result CommandAnswer Unanswered)
    → inputs ≡ search_read search → IsSearchAnswer search told
    → IsMadeBy (IsSolveReply search.goal search.fold search.budget inputs) (SolveTakesMemory inputs) (SolveMakes search.goal search.fold inputs) told
search_answered inputs search (Ok answer) are says = (says.0, (_, _, _, are, says.1), says.2)
search_answered inputs search (Err Memory) are takes = (_, _, _, are, takes)
search_answered inputs search (Err Wrong) are makes = (_, _, _, are, makes)

-- ---- letters, byte by byte

letters-append : (front rest : Bytes) → letters_of (front ++ rest) ≡ letters_of front ++ letters_of rest
letters-append front rest = rw filter_map-append (map-append letter_of (moves_of front) (moves_of rest))

module _ (moves front piece : Bytes) (i : ℕ) (low : i < length moves) (so_far : front ++ letters_of (drop i moves) ≡ letters_of moves)
    (is : piece ≡ letters_of (get_or moves i 0 ∷ [])) where
  -- with the next piece the front goes one letter further
  pub letters-next : (front ++ piece) ++ letters_of (drop (i + 1) moves) ≡ letters_of moves
  letters-next =
      let rest = drop (i + 1) moves in
      let next = ap letters_of (drop_more moves i 0 low) ∙ letters-append (get_or moves i 0 ∷ []) rest in
      rw (append_assoc, is, ← next) so_far

  -- there is room for the next
  pub letters-room : length (letters_of moves) ≤ MOST_LETTERS → length front + length piece ≤ MOST_LETTERS
  letters-room few = omega (arith, length-append {A = ℕ}, ap length letters-next)
