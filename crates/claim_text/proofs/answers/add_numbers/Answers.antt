use Rattle.std.proofs.Common.{◌++◌, arith, lit<, ap, ◌∙◌, length, decimal, codes, take}
use Rattle.claim_text.specs.Lines.{numbers}
use Rattle.claim_text.proofs.AnswerLemmas.{cell_short, numbers-more}
use Rattle.claim_text.proofs.answers.add_numbers.Goals as goal

-- the line has room for the next number, which has at most two digits
pub push_str-requires-in-loop-cell : goal.push_str-requires-in-loop-cell
push_str-requires-in-loop-cell c =
    let short = cell_short c.args.board.now c.side.result c.loop-cell.cell c.side.ensures.board c.side.ensures.side (omega arith) in
    let same = ap length c.format.ensures.text in
    let digits = ap (λ n. length (decimal n)) c.at.ensures in
    (lit< tt, omega (arith, short, same, digits))

-- the next number is in the line, with a space before it
pub loop-cell-preserved : goal.loop-cell-preserved
loop-cell-preserved c =
    let b = c.args.board.now in
    let short = cell_short b c.side.result c.loop-cell.cell c.side.ensures.board c.side.ensures.side (omega arith) in
    let same = ap length c.format.ensures.text in
    let digits = ap (λ n. length (decimal n)) c.at.ensures in
    record {
      bytes =
          c.push_str-in-loop-cell.ensures.bytes ∙ ap (λ text. text ++ c.format.result.now)
          (c.push_str.ensures.bytes ∙ ap (λ text. text ++ codes " ") c.loop-cell.invariant.bytes) ∙
          ap (λ text. ((c.args.line.now.bytes ++ numbers (take c.loop-cell.cell b)) ++ codes " ") ++ text) (c.format.ensures.text ∙ ap decimal c.at.ensures) ∙
          numbers-more c.args.line.now.bytes b c.loop-cell.cell short.2;
      len = omega (arith, short, same, digits);
    }
