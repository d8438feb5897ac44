-- When a search over the sets of a bundle may be given up.
use Rattle.std.specs.Prelude.{◌≡◌, ℕ, ◌+◌, ◌*◌, ◌^◌, ◌≤◌, List, Option, Some}
use Rattle.move_strings.specs.Automata.{reversal_steps}
use Rattle.puz_board.specs.Parity.{blank_parity}
use Rattle.puz_search.specs.Answers.{IsSpentAfter}
use Rattle.puz_search.specs.Guides.{ShownGuide}
use Rattle.puz_search.specs.Searches.{Fails}
use Rattle.set_sum.specs.Bundles.{ShownBundle}

-- the sets cut boards off, and no move is tried that takes the one before it straight back
abbrev pub search_guide : ShownBundle → ShownGuide
search_guide v = record { bundle = v; steps = reversal_steps }

-- The budget of boards is spent: the searches below the first k thresholds fail within it, and the search below the next threshold
-- has more boards than what they leave of it. What is told of them is the bound that they prove together.
abbrev pub IsSpent : ShownBundle → List ℕ → ℕ → Option ℕ → Type 0
IsSpent v b budget told = (k : ℕ) × (told ≡ Some (blank_parity b + 2 * k)) × IsSpentAfter (search_guide v) b budget k

-- The log may be too long: the search below some threshold fails and expands 2^28 boards or more. The tree of fewer has less than
-- 2^30 nodes, which a log has room for. Where they are more, this doesn't say how many nodes the tree has.
abbrev pub IsTooLong : ShownBundle → List ℕ → Type 0
IsTooLong v b = (k boards : ℕ) × Fails (search_guide v) (blank_parity b + 2 * k + 1) b 0 boards × (2 ^ 28 ≤ boards)
