use Rattle.std.proofs.Common.{◌≡◌, false, map, take}
use Rattle.std.specs.Prelude.{IfSome}
use Rattle.pdb_run.specs.Inputs.{is_input, wanted_of}
use Rattle.pdb_run.proofs.io.is_input.Given as goal

-- the name is that of none of the inputs so far
abbrev pub invariant-loop-input : goal.invariant-loop-input
invariant-loop-input g l =
    IfSome (g.S.Shelf.held l.shelf) (λ _. is_input (map wanted_of (take l.input-index l.inputs)) l.name ≡ false)
