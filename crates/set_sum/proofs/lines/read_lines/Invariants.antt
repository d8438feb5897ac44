use Rattle.std.proofs.Common.{◌+◌, ◌≤◌, length, map}
use Rattle.set_sum.proofs.LinesReadLemmas.{HasLines}
use Rattle.set_sum.proofs.lines.read_lines.Given as goal

-- the text is the lines read so far and the rest, and no more lines are counted than bytes read
abbrev pub invariant-lines : goal.invariant-lines
invariant-lines l = record {
  has : HasLines l.tables l.text l.rest l.lines.count l.lines.missing (map (λ set. set.items) l.lines.sets.items);
  room : l.lines.count + length l.rest ≤ length l.text;
}

-- how much of the text is left to read gets less with each line
abbrev pub decreases-lines : goal.decreases-lines
decreases-lines l = length l.rest
