use Rattle.std.proofs.Common.{append_assoc}
use Rattle.pdb_verdict.proofs.lines.exact_line.Goals as goal

-- the line of an exact table has its side, mask, entries, unreachable ones and deepest one
pub returns : goal.returns
returns c =
    rw (c.lines.ensures, c.format.ensures.text, c.get.ensures.value)
    (simp (c.format-2.ensures.text, c.format-3.ensures.text, c.format-4.ensures.text, c.format-5.ensures.text, append_assoc))
