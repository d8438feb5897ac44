use Rattle.std.proofs.Common.{◌≡◌, ℕ, length, slice_get, Some}
use Rattle.pat_place.specs.Patterns.{ShownPattern}
use Rattle.puz_walk.specs.WordBundles.{pattern_at}
use Rattle.pdb_prove.proofs.words.rooms_for.Given as goal

-- there is memory for the words of the tables before
abbrev pub invariant-loop-number : goal.invariant-loop-number
invariant-loop-number l = record {
  size : length l.rooms.items ≡ l.number;
  each : (table : ℕ) (room : ShownPattern) → slice_get l.rooms.items table ≡ Some room → room ≡ pattern_at l.bundle table;
}
