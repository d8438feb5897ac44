use Rattle.std.proofs.Common.{◌≡◌, ◌-◌, ◌≤◌}
use Rattle.tab_make.specs.Layers.{layer_from}
use Rattle.tab_make.proofs.layers.layer_of_piece.Given as goal

-- the numbers are the layer from the piece's first entry to the block so far
abbrev pub invariant-blocks-2 : goal.invariant-blocks-2
invariant-blocks-2 l = (l.numbers.items ≡ layer_from l.d l.entries l.from (l.at - l.from)) × (l.from ≤ l.at) × (l.at ≤ l.end)

-- how many entries of the piece are left gets less with each block
abbrev pub decreases-blocks-2 : goal.decreases-blocks-2
decreases-blocks-2 l = l.end - l.at
