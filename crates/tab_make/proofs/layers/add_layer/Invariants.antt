use Rattle.std.proofs.Common.{◌≡◌, ◌-◌, ◌≤◌, ◌++◌}
use Rattle.tab_make.specs.Layers.{layer_from}
use Rattle.tab_make.proofs.layers.add_layer.Given as goal

-- the list has what it had before, and the layer among the entries of the block so far
abbrev pub invariant-loop-number : goal.invariant-loop-number
invariant-loop-number l = (l.numbers.items ≡ l.fn.numbers.items ++ layer_from l.d l.entries l.from (l.number - l.from)) × (l.from ≤ l.number)
