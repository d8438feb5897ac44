use Rattle.std.proofs.Common.{◌≡◌, length, map, take}
use Rattle.std.specs.List.{AllByRecursion}
use Rattle.set_sum.specs.Bundles.{most_tables}
use Rattle.set_sum.specs.Parts.{IsExactPart, part_pattern}
use Rattle.set_sum.proofs.bundles.patterns_of.Given as goal

-- the first patterns are those of the tables so far, and each of these is exact
abbrev pub invariant-loop-i : goal.invariant-loop-i
invariant-loop-i l = record {
  room : length l.patterns ≡ most_tables;
  done : take l.i l.patterns ≡ map part_pattern (take l.i l.tables);
  exact : AllByRecursion IsExactPart (take l.i l.tables);
}
