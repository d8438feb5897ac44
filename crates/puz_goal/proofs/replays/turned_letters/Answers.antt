use Rattle.std.proofs.Common.{◌≡◌, ◌≢◌, ◌∙◌, ◌+◌, length, ap, arith, sym, subst}
use Rattle.std.proofs.lemmas.Bool.{eqb-false, eqb-true}
use Rattle.std.specs.Prelude.{is_some}
use Rattle.puz_goal.proofs.ReplayLemmas.{AreKept, kept-full, kept-more, kept-other}
use Rattle.puz_goal.proofs.replays.turned_letters.Goals as goal
use Rattle.puz_goal.proofs.replays.turned_letters.Goals.{else-is_some, then-is_some+then-not-is_full, else-is_some-via-then-is_some+else-not-is_full}
use Rattle.puz_goal.proofs.replays.turned_letters.Goals.{else-is_some-via-else-is_some}

-- a letter is kept where there is room, and any other byte is passed over
pub loop-b-preserved : goal.loop-b-preserved
loop-b-preserved c =
    let text = c.args.text.now in
    let i = c.loop-b.b-index in
    let items = c.loop-b.letters.items in
    let letter = c.turned_letter-letter.result in
    let is = c.turned_letter-letter.ensures in
    let inside = c.loop-b-test.true in
    let kept = c.loop-b.invariant in
    elim c.if-is_some.branch [
      | then-is_some+then-not-is_full w ↦
          let more = sym (w.if-is_some.ensures ∙ ap is_some c.of_byte.ensures) in
          let fits = w.is_full.ensures.fits in
          let other : length items ≢ 1001 = eqb-false (length items) 1001 (sym w.if-not-is_full.ensures.value) in
          subst (λ xs. AreKept text xs (i + 1)) (sym (ap (λ l. l.items) w.letters-is ∙ w.push.ensures.items))
          (kept-more text items i letter inside is kept more (omega arith))
      | else-is_some w ↦ subst (λ l. AreKept text l.items (i + 1)) (sym w.letters-is) (elim w.else-is_some.branch [
        | else-is_some-via-then-is_some+else-not-is_full full ↦
            let all : length items ≡ 1001 = eqb-true (length items) 1001 (sym full.if-not-is_full.ensures.value) in
            kept-full text items i letter inside is kept (omega arith)
        | else-is_some-via-else-is_some none ↦
            kept-other text items i letter inside is kept (sym (none.if-is_some.ensures ∙ ap is_some c.of_byte.ensures))
      ])
    ]
