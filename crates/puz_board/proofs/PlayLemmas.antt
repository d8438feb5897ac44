-- Moves that are played one after another.
use Rattle.std.proofs.Common.{◌≡◌, ℕ, suc, ◌+◌, ◌<◌, ◌≤◌, min, false, cond, ltb, List, [], ◌∷◌, ◌++◌, length, take, drop, get_or, Option, Some, None}
use Rattle.std.proofs.Common.{Ok, Err, refl, sym, ◌∙◌, ap, arith, length-append, take-append-drop}
use Rattle.std.proofs.lemmas.Bool.{cond-true, cond-false, lt-ltb, le-ltb}
use Rattle.std.proofs.lemmas.List.{take-append-le}
use Rattle.std.proofs.lemmas.List.Elements.{filter_map-append}
use Rattle.std.proofs.Math.Seq.{drop-cons, take-suc, take-append-add}
use Rattle.std.specs.List.{cons_option}
use Rattle.std.specs.Prelude.{is_none, option_and_then}
use Rattle.std.specs.Option.{option_map_or}
use Rattle.puz_board.specs.declared.moves.Move.{Move}
use Rattle.puz_board.specs.declared.replays.MoveFault.TheVariants.{M2, M3, M4}
use Rattle.puz_board.specs.Cells.{move_of_letter}
use Rattle.puz_board.specs.BoardTexts.{refuse}
use Rattle.puz_board.specs.Boards.{is_goal, moved}
use Rattle.puz_board.specs.MovesTexts.{leaves_at, leaving, moves_of, replay_of_moves}
use Rattle.puz_board.specs.Paths.{board_after}
use Rattle.puz_board.proofs.FirstLemmas.{first_below-none, first_below-some}

-- some moves, and then others
pub board_after-append : (b : List ℕ) (ms ns : List Move) → board_after b (ms ++ ns) ≡ option_and_then (λ d. board_after d ns) (board_after b ms)
unfolding board_after
board_after-append b [] ns = refl
board_after-append b (m ∷ ms) ns = step (moved b m) (λ d. board_after-append d ms ns)
  where
    step : (o : Option (List ℕ)) → ((d : List ℕ) → board_after d (ms ++ ns) ≡ option_and_then (λ e. board_after e ns) (board_after d ms))
        → option_and_then (λ d. board_after d (ms ++ ns)) o ≡ option_and_then (λ e. board_after e ns) (option_and_then (λ d. board_after d ms) o)
    step None h = refl
    step (Some d) h = h d

one_after : (d : List ℕ) (m : Move) → board_after d (m ∷ []) ≡ moved d m
unfolding board_after
one_after d m = step (moved d m)
  where
    step : (o : Option (List ℕ)) → option_and_then (λ e. Some e) o ≡ o
    step None = refl
    step (Some e) = refl

-- one more move
pub board_after-push : (b d : List ℕ) (ms : List Move) (m : Move) → board_after b ms ≡ Some d → board_after b (ms ++ m ∷ []) ≡ moved d m
board_after-push b d ms m e = board_after-append b ms (m ∷ []) ∙ ap (option_and_then (λ d. board_after d (m ∷ []))) e ∙ one_after d m

-- a front of moves that stay stays
front_stays : (b d : List ℕ) (ms : List Move) (n : ℕ) → board_after b ms ≡ Some d → is_none (board_after b (take n ms)) ≡ false
front_stays b d ms n e = go (board_after b (take n ms)) (sym (board_after-append b (take n ms) (drop n ms)) ∙ ap (board_after b) (take-append-drop n ms) ∙ e)
  where
    go : (o : Option (List ℕ)) → option_and_then (λ d. board_after d (drop n ms)) o ≡ Some d → is_none o ≡ false
    go None f = cc
    go (Some x) f = refl

module _ (b d : List ℕ) (seen : List Move) (stays : board_after b seen ≡ Some d) where
  stays_among : (m : Move) (more : List Move) (k : ℕ) → k < length seen → leaves_at b (seen ++ m ∷ more) k ≡ false
  stays_among m more k l = ap (λ ms. is_none (board_after b ms)) (take-append-le (k + 1) seen (m ∷ more) (omega arith)) ∙ front_stays b d seen (k + 1) stays

  seen_and_one : (m : Move) (more : List Move) → take (length seen + 1) (seen ++ m ∷ more) ≡ seen ++ m ∷ []
  seen_and_one m more = take-append-add seen (m ∷ more) 1

  -- the next move leaves the board
  pub replay-leaves : (m : Move) (more : List Move) → length seen < 1000 → moved d m ≡ None → replay_of_moves b (seen ++ m ∷ more) ≡ Err (M2 (length seen))
  unfolding replay_of_moves leaving
  replay-leaves m more l e =
      let all = length-append seen (m ∷ more) in
      let here : length seen < min 1000 (length (seen ++ m ∷ more)) = omega arith in
      ap (λ o. refuse M2 o (cond (ltb 1000 (length (seen ++ m ∷ more))) (Err M3)
      (cond (option_map_or is_goal (board_after b (seen ++ m ∷ more)) false) (Ok (length (seen ++ m ∷ more))) (Err M4))))
      (first_below-some (leaves_at b (seen ++ m ∷ more)) (min 1000 (length (seen ++ m ∷ more))) (length seen) here (stays_among m more)
      (ap (λ ms. is_none (board_after b ms)) (seen_and_one m more) ∙ ap is_none (board_after-push b d seen m stays ∙ e)))

  -- more than 1000 moves
  pub replay-long : (m : Move) (more : List Move) → length seen ≡ 1000 → replay_of_moves b (seen ++ m ∷ more) ≡ Err M3
  unfolding replay_of_moves leaving
  replay-long m more l =
      let all = length-append seen (m ∷ more) in
      let big : 1000 < length (seen ++ m ∷ more) = omega arith in
      ap (λ o. refuse M2 o (cond (ltb 1000 (length (seen ++ m ∷ more))) (Err M3)
      (cond (option_map_or is_goal (board_after b (seen ++ m ∷ more)) false) (Ok (length (seen ++ m ∷ more))) (Err M4))))
      (first_below-none (leaves_at b (seen ++ m ∷ more)) (min 1000 (length (seen ++ m ∷ more))) (λ k p. stays_among m more k (omega arith))) ∙
      cond-true (ltb 1000 (length (seen ++ m ∷ more))) (Err M3) _ (lt-ltb _ _ big)

  -- all moves stay
  pub replay-ends : length seen ≤ 1000 → replay_of_moves b seen ≡ cond (is_goal d) (Ok (length seen)) (Err M4)
  unfolding replay_of_moves leaving
  replay-ends l =
      ap (λ o. refuse M2 o (cond (ltb 1000 (length seen)) (Err M3) (cond (option_map_or is_goal (board_after b seen) false) (Ok (length seen)) (Err M4))))
      (first_below-none (leaves_at b seen) (min 1000 (length seen)) (λ k p. front_stays b d seen (k + 1) stays)) ∙
      cond-false (ltb 1000 (length seen)) (Err M3) _ (le-ltb _ _ l) ∙
      ap (λ o. cond (option_map_or is_goal o false) (Ok (length seen)) (Err M4)) stays

-- ---- the moves of a text

append_nil : (ms : List Move) → ms ++ [] ≡ ms
append_nil [] = refl
append_nil (m ∷ ms) = ap (λ ns. m ∷ ns) (append_nil ms)

module _ (text : List ℕ) (i : ℕ) (inside : i < length text) where
  next_taken : take (i + 1) text ≡ take i text ++ get_or text i 0 ∷ []
  next_taken = let next : i + 1 ≡ suc i = omega arith in ap (λ k. take k text) next ∙ take-suc text i 0 inside

  -- the next byte is a letter
  pub moves_of-letter : (m : Move) → Some m ≡ move_of_letter (get_or text i 0) → moves_of (take (i + 1) text) ≡ moves_of (take i text) ++ m ∷ []
  moves_of-letter m e =
      ap moves_of next_taken ∙ filter_map-append move_of_letter (take i text) (get_or text i 0 ∷ []) ∙
      ap (λ o. moves_of (take i text) ++ cons_option o []) (sym e)

  -- the moves of a text around a letter of a move are those before it, this move and those after it
  pub moves_of-around : (m : Move) → Some m ≡ move_of_letter (get_or text i 0) → moves_of text ≡ moves_of (take i text) ++ m ∷ moves_of (drop (suc i) text)
  moves_of-around m e =
      ap moves_of (sym (take-append-drop i text) ∙ ap (λ t. take i text ++ t) (drop-cons text i 0 inside)) ∙
      filter_map-append move_of_letter (take i text) (get_or text i 0 ∷ drop (suc i) text) ∙
      ap (λ o. moves_of (take i text) ++ cons_option o (moves_of (drop (suc i) text))) (sym e)

  -- it is none
  pub moves_of-other : None ≡ move_of_letter (get_or text i 0) → moves_of (take (i + 1) text) ≡ moves_of (take i text)
  moves_of-other e =
      ap moves_of next_taken ∙ filter_map-append move_of_letter (take i text) (get_or text i 0 ∷ []) ∙
      ap (λ o. moves_of (take i text) ++ cons_option o []) (sym e) ∙ append_nil (moves_of (take i text))

-- no moves at all leave a board what it is
pub board_after-nothing : (b : List ℕ) → board_after b [] ≡ Some b
unfolding board_after
board_after-nothing b = refl
