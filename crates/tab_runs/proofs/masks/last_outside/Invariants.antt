use Rattle.std.proofs.Common.{◌≡◌, ℕ, ◌<◌, ◌≤◌}
use Rattle.std.specs.Int.{bit_at}
use Rattle.tab_runs.proofs.masks.last_outside.Given as goal

-- all numbers from this end up to the count are in the mask
abbrev pub invariant-loop-end : goal.invariant-loop-end
invariant-loop-end l = record {
  upto : l.end ≤ l.count;
  above : (x : ℕ) → l.end ≤ x → x < l.count → bit_at l.mask x ≡ 1;
}

-- how many numbers are still to be looked at
abbrev pub decreases-loop-end : goal.decreases-loop-end
decreases-loop-end l = l.end
