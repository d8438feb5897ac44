use Rattle.std.proofs.Common.{◌∙◌, ap₂, sym}
use Rattle.puz_board.specs.MovesTexts.{replay_of}
use Rattle.puz_goal.specs.Turning.{half_turned}
use Rattle.puz_goal.proofs.ReplayLemmas.{replay-clean, replay-stray}
use Rattle.puz_goal.proofs.replays.replay_last.Goals as goal

-- a byte that is neither a letter nor a separator is what is wrong with the turned moves too
pub returns-in-Some : goal.returns-in-Some
returns-in-Some c = replay-stray (half_turned c.args.board.now) c.args.text.now c.in-Some.place (sym c.in-Some.is ∙ c.first_stray_letter.ensures)

-- the first letters of the turned moves tell what all of them do on the turned board
pub returns : goal.returns
returns c =
    let letters = c.turned_letters-letters in
    c.replay.ensures.exact ∙ ap₂ replay_of c.half_turned.ensures.value c.as_slice.ensures.value ∙
    replay-clean (half_turned c.args.board.now) c.args.text.now letters.result.items (sym c.in_default.is ∙ c.first_stray_letter.ensures)
    letters.ensures.letters letters.ensures.moves
