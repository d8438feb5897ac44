-- What is replayed with a count solves the board, and back.
use Rattle.std.proofs.Common.{◌≡◌, ℕ, ◌≤◌, true, false, ltb, List, length, Option, Some, None, Ok, Err, refl, sym, ◌∙◌, ap, arith, ◌||◌}
use Rattle.std.proofs.lemmas.Bool.{cond-true, ltb-false}
use Rattle.std.specs.Option.{option_map_or}
use Rattle.puz_board.specs.declared.moves.Move.{Move}
use Rattle.puz_board.specs.declared.replays.MoveFault.TheVariants.{M1, M2, M3, M4}
use Rattle.puz_board.specs.Boards.{IsBoard, is_goal}
use Rattle.puz_board.specs.BoardTexts.{is_separator, refuse}
use Rattle.puz_board.specs.MovesTexts.{Solves, is_letter, leaving, moves_of, replay_of, replay_of_moves, stray_letter}
use Rattle.puz_board.specs.Paths.{after, board_after}
use Rattle.puz_board.proofs.BoardLemmas.{goal-is_goal, is_goal-goal}
use Rattle.puz_board.proofs.FirstLemmas.{AllPass-position, position-AllPass}
use Rattle.puz_board.proofs.PathLemmas.{board_after-led, led-board_after}
use Rattle.puz_board.proofs.PlayLemmas.{replay-ends}
use Rattle.puz_board.proofs.RefusalLemmas.{refuse_ok, unless_ok, when_ok}

-- what solves a board is answered with its count
pub replay_of-solved : (b text : List ℕ) (n : ℕ) → IsBoard b → Solves b text n → replay_of b text ≡ Ok n
unfolding replay_of stray_letter
replay_of-solved b text n good solved =
    let play = board_after-led b (moves_of text) solved.path good solved.solution.0 solved.led in
    let few : length (moves_of text) ≤ 1000 = let c = solved.count in let f = solved.few in let p = play.1 in omega arith in
    ap (λ o. refuse M1 o (replay_of_moves b (moves_of text))) (position-AllPass (λ byte. is_letter byte || is_separator byte) text solved.letters) ∙
    replay-ends b (after b solved.path) (moves_of text) play.0 few ∙
    cond-true (is_goal (after b solved.path)) (Ok (length (moves_of text))) (Err M4) (is_goal-goal (after b solved.path) solved.solution.1) ∙
    ap Ok (sym play.1 ∙ solved.count)

-- ---- and back

-- a board that is there and passes the test
goal_of : (o : Option (List ℕ)) → option_map_or is_goal o false ≡ true → (d : List ℕ) × (o ≡ Some d) × (is_goal d ≡ true)
goal_of None e = cc
goal_of (Some d) e = (d, refl, e)

replay_of_moves-ok : (b : List ℕ) (ms : List Move) (n : ℕ) → replay_of_moves b ms ≡ Ok n
    → (length ms ≤ 1000) × (option_map_or is_goal (board_after b ms) false ≡ true) × (length ms ≡ n)
unfolding replay_of_moves
replay_of_moves-ok b ms n e =
    let stay = refuse_ok M2 (leaving b ms) _ n e in
    let few = unless_ok (ltb 1000 (length ms)) M3 _ n stay.1 in
    let goal = when_ok (option_map_or is_goal (board_after b ms) false) (length ms) M4 n few.1 in
    (ltb-false _ _ few.0, goal.0, goal.1)

-- what is answered with a count solves the board
pub solved-replay_of : (b text : List ℕ) (n : ℕ) → IsBoard b → replay_of b text ≡ Ok n → Solves b text n
unfolding replay_of stray_letter
solved-replay_of b text n good e =
    let clean = refuse_ok M1 (stray_letter text) (replay_of_moves b (moves_of text)) n e in
    let ok = replay_of_moves-ok b (moves_of text) n clean.1 in
    let end = goal_of (board_after b (moves_of text)) ok.1 in
    let way = led-board_after b end.0 (moves_of text) good end.1 in
    record {
      letters = AllPass-position (λ byte. is_letter byte || is_separator byte) text clean.0;
      path = way.path;
      led = way.led;
      solution = (way.walk, goal-is_goal (after b way.path) (ap is_goal way.ends ∙ end.2));
      count = way.count ∙ ok.2;
      few = let c = way.count in let l = ok.0 in let is = ok.2 in omega arith;
    }
