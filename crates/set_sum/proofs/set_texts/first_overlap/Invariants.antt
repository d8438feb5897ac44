use Rattle.std.proofs.Common.{map, take}
use Rattle.std.specs.List.{AllByRecursion}
use Rattle.set_sum.specs.Reading.{NamesOverlap}
use Rattle.set_sum.specs.OverPatterns.{tables_with}
use Rattle.set_sum.proofs.set_texts.first_overlap.Given as goal

-- no two members of the sets so far share a tile
abbrev pub invariant-loop-line : goal.invariant-loop-line
invariant-loop-line l = AllByRecursion (λ set. ¬ NamesOverlap (tables_with l.patterns) set) (take l.line (map (λ set. set.items) l.sets))
