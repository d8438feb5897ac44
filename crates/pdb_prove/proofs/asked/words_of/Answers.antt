use Rattle.std.proofs.Common.{◌∙◌, arith}
use Rattle.pdb_prove.proofs.LineLemmas.{fault_line, split_at_end}
use Rattle.pdb_prove.proofs.asked.words_of.Goals as goal

-- the line of a refusal has an end, which can be cut off
pub truncate-requires : goal.truncate-requires
truncate-requires c =
    let words = fault_line c.args.refused in
    let cut = split_at_end c.line_of-line.result.bytes words.0 (c.line_of-line.ensures ∙ words.1) in
    (omega arith, λ low. rw c.len.ensures.value cut.1)
