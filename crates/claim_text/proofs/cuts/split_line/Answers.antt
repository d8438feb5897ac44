use Rattle.std.proofs.Common.{length, sym, ◌∙◌, arith}
use Rattle.std.proofs.lemmas.Bool.{eqb-false}
use Rattle.claim_text.proofs.CutLemmas.{lines_of-cut, lines_of-whole}
use Rattle.claim_text.proofs.cuts.split_line.Goals as goal

-- a text without an LF is a line of its own, and nothing is behind it
pub returns-in_default-clause-some : goal.returns-in_default-clause-some
returns-in_default-clause-some c =
    let some = eqb-false (length c.args.text.now) 0 (sym c.is_empty.ensures ∙ c.if-is_empty.false) in
    lines_of-whole c.args.text.now (omega arith) c.in_default.ensures.none

-- what is before the first LF is the first line, and behind it are the other lines
pub returns-clause-some : goal.returns-clause-some
returns-clause-some c = lines_of-cut c.args.text.now c.in-Some.line.now c.in-Some.behind.now c.in-Some.ensures.some
