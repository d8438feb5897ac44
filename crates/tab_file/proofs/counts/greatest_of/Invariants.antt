use Rattle.std.proofs.Common.{◌≡◌, ℕ, ◌<◌, ◌≤◌, ◌⊎◌, get_or}
use Rattle.tab_file.proofs.counts.greatest_of.Given as goal

-- the greatest of the bytes before this one is at hand, or 0 where there are none
abbrev pub invariant-loop-byte : goal.invariant-loop-byte
invariant-loop-byte l = ((i : ℕ) → i < l.byte-index → get_or l.bytes i 0 ≤ l.greatest)
    × ((l.greatest ≡ 0) ⊎ ((i : ℕ) × (i < l.byte-index) × (get_or l.bytes i 0 ≡ l.greatest)))
