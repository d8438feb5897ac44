-- A puzzle text has one result, and it is a number of moves exactly where so many solve the board.
use Rattle.std.proofs.Common.{◌≡◌, ◌∙◌, ◌↔◌, ℕ, Bool, true, false, List, [], Some, Result, Ok, Err, not, ◌||◌, arith, refl, sym, unwrap_or}
use Rattle.std.specs.Prelude.{◌==◌}
use Rattle.std.specs.Result.{result_unwrap_or}
use Rattle.std.specs.Char.{is_ascii_digit}
use Rattle.std.proofs.lemmas.Bool.{eqb-true}
use Rattle.puz_board.specs.BoardTexts.{Spells, board_of_text, is_separator, stray_byte}
use Rattle.puz_board.specs.MovesTexts.{replay_of}
use Rattle.puz_board.specs.PuzzleTexts.{HasNoSemicolon, IsPuzzle, puzzle_parts}
use Rattle.puz_board.proofs.FirstLemmas.{AllPass-position}
use Rattle.puz_board.proofs.PuzzleLemmas.{puzzle_parts-puzzle, puzzle-parts}
use Rattle.puz_board.proofs.SolutionLemmas.{replay_of-solved, solved-replay_of}
use Rattle.puz_board.proofs.SpellingLemmas.{board_of_text-spelled, spelled-board_of_text, stray_byte-numerals}
use Rattle.puz_goal.specs.declared.goals.Goal.{Goal}
use Rattle.puz_goal.specs.Turning.{board_for, moves_for}
use Rattle.puz_goal.proofs.SolvingLemmas.{boards_turn, solved_for, solves_for}
use Rattle.pdb_verdict.specs.Refusals.{told_as}
use Rattle.pdb_verdict.specs.Replay.{IsReplayResult, IsReplayTold, IsSolvedPuzzle, puzzle_of, solved_by, solved_parts}
use Rattle.pdb_verdict.specs.declared.verdicts.Fault.{Fault}
use Rattle.pdb_verdict.specs.declared.verdicts.Verdict.{Verdict}
use Rattle.pdb_verdict.proofs.RefusalLemmas.{Behind, IsOne, after, by_result, one_behind, one_by, one_made, stays, told_yes}

-- ---- puzzles that are solved

not_semicolon : (b : ℕ) (t : Bool) → (b == 59) ≡ t → (is_ascii_digit b || is_separator b) ≡ true → not t ≡ true
not_semicolon b true is clean = let clash : false ≡ true = rw (eqb-true b 59 is) at clean in cc
not_semicolon b false is clean = refl

-- no text of a board has a `;`
pub spelled-no_semicolon : (text board : List ℕ) → Spells text board → HasNoSemicolon text
unfolding stray_byte
spelled-no_semicolon text board spelt k d low =
    let none = stray_byte-numerals text spelt.numerals in
    not_semicolon _ _ refl (AllPass-position (λ b. is_ascii_digit b || is_separator b) text none k d low)

-- so the `;` behind it is the first
pub solved-puzzle : (goal : Goal) (puzzle : List ℕ) (n : ℕ) (solved : IsSolvedPuzzle goal puzzle n) → IsPuzzle puzzle solved.board_text solved.moves_text
solved-puzzle goal puzzle n solved =
    record { whole = solved.whole; first = spelled-no_semicolon solved.board_text solved.board solved.spelt }

-- a board and a number of moves come of a puzzle that is solved
pub solved-parts : (goal : Goal) (puzzle board : List ℕ) (n : ℕ) → solved_parts goal (puzzle_parts puzzle) ≡ Ok (board, n)
    → (solved : IsSolvedPuzzle goal puzzle n) × (board_for goal solved.board ≡ board)
solved-parts goal puzzle board n is =
    let texts : List ℕ × List ℕ = unwrap_or (puzzle_parts puzzle) ([], []) in
    let parts : puzzle_parts puzzle ≡ Some texts = grind arith in
    let read : List ℕ = result_unwrap_or (board_of_text texts.0) [] in
    let spelt : board_of_text texts.0 ≡ Ok read = grind arith in
    let turned : board_for goal read ≡ board = grind arith in
    let replayed : replay_of (board_for goal read) (moves_for goal texts.1) ≡ Ok n = grind arith in
    let spells = spelled-board_of_text texts.0 read spelt in
    let board_turned = (boards_turn goal read spells.board).board in
    let solved : IsSolvedPuzzle goal puzzle n = record {
      board = read;
      board_text = texts.0;
      moves_text = texts.1;
      whole = (puzzle-parts puzzle texts.0 texts.1 parts).whole;
      spelt = spells;
      solved = solved_for goal read texts.1 n spells.board (solved-replay_of (board_for goal read) (moves_for goal texts.1) n board_turned replayed);
    } in
    (solved, turned)

-- and of each
pub parts-solved : (goal : Goal) (puzzle : List ℕ) (n : ℕ) (solved : IsSolvedPuzzle goal puzzle n)
    → solved_parts goal (puzzle_parts puzzle) ≡ Ok (board_for goal solved.board, n)
parts-solved goal puzzle n h =
    let turned = (boards_turn goal h.board h.spelt.board).board in
    rw (puzzle_parts-puzzle puzzle h.board_text h.moves_text (solved-puzzle goal puzzle n h), board_of_text-spelled h.board_text h.board h.spelt)
    (rw (replay_of-solved (board_for goal h.board) (moves_for goal h.moves_text) n turned (solves_for goal h.board h.moves_text n h.spelt.board h.solved)))

-- the board and the moves of a puzzle text that is made of them
pub joined-parts : (goal : Goal) (text moves board : List ℕ) → Spells text board
    → solved_parts goal (puzzle_parts (puzzle_of text moves)) ≡ solved_by (board_for goal board) (replay_of (board_for goal board) (moves_for goal moves))
joined-parts goal text moves board spelt =
    rw (puzzle_parts-puzzle _ text moves (record { whole = refl; first = spelled-no_semicolon text board spelt }), board_of_text-spelled text board spelt) refl

-- ---- the result

by_puzzle : (goal : Goal) (puzzle : List ℕ) (found : Result ℕ Fault) → IsReplayResult goal puzzle found
    → Behind (λ r. solved_parts goal (puzzle_parts puzzle) ≡ r) (λ f. Err f) (λ read found. found ≡ Ok read.1) found
by_puzzle goal puzzle (Ok n) is = after (board_for goal is.board, n) (parts-solved goal puzzle n is) refl
by_puzzle goal puzzle (Err refused) is = stays refused is

-- there is one
pub IsReplayResult-one : (goal : Goal) (puzzle : List ℕ) → IsOne (IsReplayResult goal puzzle)
IsReplayResult-one goal puzzle =
    one_by (by_puzzle goal puzzle) (one_behind (λ r q is also. sym is ∙ also) (λ read a b is also. is ∙ sym also))

-- a puzzle text has a result
pub replay_some : (goal : Goal) (puzzle : List ℕ) → (found : Result ℕ Fault) × IsReplayResult goal puzzle found
replay_some goal puzzle = by_result (solved_parts goal (puzzle_parts puzzle))
    (λ read is. (Ok read.1, (solved-parts goal puzzle read.0 read.1 is).0)) (λ refused is. (Err refused, is))

-- a text that is refused is told so
pub refused_told : (goal : Goal) (puzzle : List ℕ) (refused : Fault) → solved_parts goal (puzzle_parts puzzle) ≡ Err refused
    → IsReplayTold goal puzzle (Err refused)
refused_told goal puzzle refused is = (Err refused, is, refl)

-- so an answer that tells it says a number of moves exactly where so many solve the board
pub says_solution : (goal : Goal) (puzzle : List ℕ) (answer : Result Verdict Fault) → IsReplayTold goal puzzle answer → (n : ℕ)
    → (answer ≡ Ok (Verdict.Solution n)) ↔ (IsSolvedPuzzle goal puzzle n)
says_solution goal puzzle answer is n = (
  λ same.
      let yes = (told_yes Verdict.Solution (IsReplayResult goal puzzle) (Verdict.Solution n)).0 (rw same at is) in
      let count : n ≡ yes.0 = cc in
      rw count yes.1,
  λ h. one_made (told_as Verdict.Solution) (IsReplayResult-one goal puzzle) answer (Ok (Verdict.Solution n)) is (Ok n, h, refl),
)
