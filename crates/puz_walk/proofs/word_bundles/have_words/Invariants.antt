use Rattle.std.proofs.Common.{ℕ, ◌<◌}
use Rattle.puz_walk.specs.WordBundles.{HasWords}
use Rattle.puz_walk.proofs.word_bundles.have_words.Given as goal

-- the tables up to this one have their words
abbrev pub invariant-loop-table : goal.invariant-loop-table
invariant-loop-table l = (t : ℕ) → t < l.table → HasWords l.outline l.words t
