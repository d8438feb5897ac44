use Rattle.std.proofs.Common.{◌≡◌, ℕ, length, slice_get, Some}
use Rattle.edge_words.specs.Words.{ShownWords}
use Rattle.puz_walk.specs.WordBundles.{pattern_at}
use Rattle.pdb_checker.proofs.words.all_words.Given as goal

-- the words are those of the tables before
abbrev pub invariant-loop-number : goal.invariant-loop-number
invariant-loop-number l = record {
  size : length l.all.items ≡ l.number;
  each : (table : ℕ) (words : ShownWords) → slice_get l.all.items table ≡ Some words → words.pattern ≡ pattern_at l.bundle table;
}
