use Rattle.std.proofs.Common.{◌≡◌, ◌+◌, ◌-◌, ◌*◌, ◌^◌, ◌<◌, ◌≤◌, drop, length}
use Rattle.std.specs.List.{AllByRecursion}
use Rattle.edge_words.specs.Indexes.{index_of}
use Rattle.edge_words.specs.Lookups.{but_last}
use Rattle.edge_words.proofs.fills.cells_at.Given as goal

-- the digits from here on, and what is left
abbrev pub invariant-loop-tile : goal.invariant-loop-tile
invariant-loop-tile l = record {
  room : length l.cells ≡ 8;
  within : l.tile ≤ length l.pattern.tiles - 1;
  digits : l.rest * l.count ^ (length l.pattern.tiles - 1 - l.tile) + index_of l.count (drop l.tile (but_last l.pattern l.cells)) ≡ l.fn.index;
  inside : AllByRecursion (λ c. c < l.count) (drop l.tile (but_last l.pattern l.cells));
  low : l.rest < l.count ^ l.tile;
}

-- what gets less while cells are taken from an index: the number of tiles without one
abbrev pub decreases-loop-tile : goal.decreases-loop-tile
decreases-loop-tile l = l.tile
