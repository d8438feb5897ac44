use Rattle.std.proofs.Common.{◌≡◌, ◌≤◌, ◌+◌, ◌++◌, List, length, ℕ}
use Rattle.std.specs.List.{All}
use Rattle.pdb_parts.specs.Beside.{first_in}
use Rattle.pdb_parts.specs.Joining.{RefutesNot, whole_lines}
use Rattle.pdb_parts.specs.Stored.{AreCountsOf, AreMarksOf, shown, skipped_shown}
use Rattle.pdb_parts.proofs.marks.mark_text.Given as goal

-- what the lines so far tell is marked and counted, they show no moves, and the other lines are left
abbrev pub invariant-loop-line : goal.invariant-loop-line
invariant-loop-line l = record {
  holds_size : length l.holds ≡ length l.fn.holds;
  spent_size : length l.spent ≡ length l.fn.spent;
  so_far : (done : List (List ℕ)) × (whole_lines l.text ≡ done ++ whole_lines l.rest)
      × ((before : List (List ℕ)) → AreMarksOf l.fn.holds l.fn.spent before (shown l.asked)
      → AreMarksOf l.holds l.spent (before ++ done) (shown l.asked))
      × AreCountsOf l.counts done (shown l.asked)
      × All (RefutesNot (shown l.asked)) done
      × (skipped_shown l.first ≡ first_in (shown l.asked) 0 done);
  few : l.counts.all + length l.rest ≤ length l.text;
  fewer : l.counts.skipped ≤ l.counts.all;
}

-- the length of the text whose lines aren't gone over
abbrev pub decreases-loop-line : goal.decreases-loop-line
decreases-loop-line l = length l.rest
