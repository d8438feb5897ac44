use Rattle.std.proofs.Common.{◌≡◌, take}
use Rattle.tab_make.specs.Pieces.{all_items}
use Rattle.tab_make.proofs.layers.joined.Given as goal

-- all lists so far, one after the other, are what was collected
abbrev pub invariant-loop-list : goal.invariant-loop-list
invariant-loop-list l = l.all.items ≡ all_items (take l.list-index l.lists)
