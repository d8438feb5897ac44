use Rattle.std.proofs.Common.{◌≡◌, ◌*◌, ◌≤◌, ◌^◌, length, take}
use Rattle.std.specs.List.{sum_by}
use Rattle.pat_place.specs.Ranks.{falling_factorial}
use Rattle.pdb_prove.proofs.words.wordable.Given as goal

-- the placements of the tables before
abbrev pub invariant-loop-number : goal.invariant-loop-number
invariant-loop-number l =
    (l.count ≡ sum_by (λ part. falling_factorial (l.bundle.side * l.bundle.side) (length part.tiles)) (take l.number l.bundle.tables))
    × (l.count ≤ l.number * 2 ^ 32)
