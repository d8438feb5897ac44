use Rattle.std.proofs.Common.{arith, ap, get_or, length, length-append, lit<, sym, ◌∙◌, ℕ}
use Rattle.std.proofs.lemmas.Str.Ascii.{encode_ascii}
use Rattle.claim_text.proofs.AnswerLemmas.{letter_small, letters_room}
use Rattle.claim_text.proofs.answers.add_letters.Goals as goal

-- where a letter comes next, the line has room for it
pub push-requires : goal.push-requires
push-requires c =
    let letter = sym c.is_letter.ensures ∙ c.if-is_letter.true in
    let room = letters_room c.args.moves.now c.loop-b.b-index c.loop-b-test.true letter in
    let small = letter_small (get_or c.args.moves.now c.loop-b.b-index 0) letter in
    let one = encode_ascii c.from.result (omega (arith, small, c.from.ensures)) in
    (lit< tt, omega (arith, room, ap length one, ap length c.loop-b.invariant, length-append {A = ℕ}, c.push_str.ensures.len, c.requires))
