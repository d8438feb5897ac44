use Rattle.std.proofs.Common.{◌≡◌, false, take}
use Rattle.std.specs.List.{AllByRecursion}
use Rattle.puz_board.specs.Costs.{has}
use Rattle.set_sum.specs.Members.{table_pattern}
use Rattle.puz_walk.specs.StoredWords.{cell_for}
use Rattle.puz_walk.proofs.owners.owner_of.Given as goal

-- no member so far has the tile
abbrev pub invariant-loop-member : goal.invariant-loop-member
invariant-loop-member l = AllByRecursion (λ m. has (table_pattern l.bundle.tables m) (cell_for l.bundle.side m l.tile) ≡ false)
    (take l.member-index l.member-items)
