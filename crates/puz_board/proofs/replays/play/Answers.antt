use Rattle.std.proofs.Common.{suc, ◌<◌, ◌≤◌, ◌∷◌, [], cond, length, take, drop, Some, Ok, Err, refl, sym, ◌∙◌, ap, subst, arith, length-append}
use Rattle.std.proofs.lemmas.List.{take_all}
use Rattle.puz_board.specs.declared.replays.MoveFault.TheVariants.{M2, M4}
use Rattle.puz_board.specs.MovesTexts.{moves_of, replay_of_moves}
use Rattle.puz_board.specs.Paths.{board_after}
use Rattle.puz_board.proofs.PlayLemmas.{board_after-nothing, board_after-push, moves_of-around, moves_of-letter, moves_of-other, replay-ends}
use Rattle.puz_board.proofs.PlayLemmas.{replay-leaves, replay-long}
use Rattle.puz_board.proofs.replays.play.Goals as goal
use Rattle.puz_board.proofs.replays.play.Goals.{in-Some+else-count-eq-MOST_MOVES+in-Some-apply, in_default}

-- before the first letter, no move is played and the board is the one given
pub loop-b-init : goal.loop-b-init
loop-b-init c = record { now = board_after-nothing c.args.board.now; count = refl; few = omega arith }

-- a further move after 1000 is the fault M3
pub returns-then-count-eq-MOST_MOVES : goal.returns-then-count-eq-MOST_MOVES
returns-then-count-eq-MOST_MOVES c =
    let text = c.args.text.now in
    let i = c.loop-b.b-index in
    let l = c.loop-b-test.true in
    let m = c.in-Some.mv in
    sym (ap (replay_of_moves c.args.board.now) (moves_of-around text i l m c.in-Some.ensures) ∙
    replay-long c.args.board.now c.loop-b.current (moves_of (take i text)) c.loop-b.invariant.now m (moves_of (drop (suc i) text))
    (sym c.loop-b.invariant.count ∙ c.if-count-eq-MOST_MOVES.true))

-- a move among the first 1000 that would leave the board is the fault M2, with its number
pub returns-in_default-apply : goal.returns-in_default-apply
returns-in_default-apply c =
    let text = c.args.text.now in
    let i = c.loop-b.b-index in
    let l = c.loop-b-test.true in
    let m = c.in-Some.mv in
    let counted = c.loop-b.invariant.count in
    let few : length (moves_of (take i text)) < 1000 = let other = c.if-count-eq-MOST_MOVES.false in let most = c.loop-b.invariant.few in omega arith in
    ap (λ n. Err (M2 n)) counted ∙
    sym (ap (replay_of_moves c.args.board.now) (moves_of-around text i l m c.in-Some.ensures) ∙
    replay-leaves c.args.board.now c.loop-b.current (moves_of (take i text)) c.loop-b.invariant.now m (moves_of (drop (suc i) text)) few
    (sym c.in_default-apply.ensures))

-- playing one move more, or passing over a separator, leaves the board after all moves so far
pub loop-b-preserved : goal.loop-b-preserved
loop-b-preserved c =
    let text = c.args.text.now in
    let i = c.loop-b.b-index in
    let l = c.loop-b-test.true in
    let seen = moves_of (take i text) in
    let before = c.loop-b.invariant in
    elim c.match-of_byte.branch [
      | in-Some+else-count-eq-MOST_MOVES+in-Some-apply w ↦
          let m = w.in-Some.mv in
          let more = moves_of-letter text i l m w.in-Some.ensures in
          let one = length-append seen (m ∷ []) in
          record {
            now = ap (board_after c.args.board.now) more ∙ board_after-push c.args.board.now c.loop-b.current seen m before.now
                ∙ sym w.in-Some-apply.ensures ∙ ap Some (sym w.current-is);
            count = let counted = before.count in let is = w.count-is in let all = ap length more in omega arith;
            few = let other = w.if-count-eq-MOST_MOVES.false in let most = before.few in let is = w.count-is in omega arith;
          }
      | in_default w ↦
          let same = moves_of-other text i l w.in_default.ensures in
          record {
            now = ap (board_after c.args.board.now) same ∙ before.now ∙ ap Some (sym w.current-is);
            count = w.count-is ∙ before.count ∙ ap length (sym same);
            few = subst (λ n. n ≤ 1000) (sym w.count-is) before.few;
          }
    ]

-- where all moves are played and end in the goal board, their count is answered
pub returns-then-is_goal : goal.returns-then-is_goal
returns-then-is_goal c =
    let text = c.args.text.now in
    let i = c.loop-b.b-index in
    let seen = moves_of (take i text) in
    let few : length seen ≤ 1000 = subst (λ n. n ≤ 1000) c.loop-b.invariant.count c.loop-b.invariant.few in
    ap Ok c.loop-b.invariant.count ∙
    ap (λ b. cond b (Ok (length seen)) (Err M4)) c.if-is_goal.ensures.test ∙
    sym (replay-ends c.args.board.now c.loop-b.current seen c.loop-b.invariant.now few) ∙
    ap (λ t. replay_of_moves c.args.board.now (moves_of t)) (take_all i text c.loop-b-test.false)

-- where all moves are played and the last board isn't the goal board, the fault is M4
pub returns-else-is_goal : goal.returns-else-is_goal
returns-else-is_goal c =
    let text = c.args.text.now in
    let i = c.loop-b.b-index in
    let seen = moves_of (take i text) in
    let few : length seen ≤ 1000 = subst (λ n. n ≤ 1000) c.loop-b.invariant.count c.loop-b.invariant.few in
    ap (λ b. cond b (Ok (length seen)) (Err M4)) c.if-is_goal.ensures.test ∙
    sym (replay-ends c.args.board.now c.loop-b.current seen c.loop-b.invariant.now few) ∙
    ap (λ t. replay_of_moves c.args.board.now (moves_of t)) (take_all i text c.loop-b-test.false)
