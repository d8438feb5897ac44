use Rattle.std.proofs.Common.{◌≡◌, ℕ, ◌<◌, get_or}
use Rattle.puz_walk.proofs.word_walks.is_in_order.Given as goal

-- the cells up to this one have theirs
abbrev pub invariant-loop-cell : goal.invariant-loop-cell
invariant-loop-cell l = (c : ℕ) → c < l.cell → get_or l.numbers c 0 ≡ c
