use Rattle.std.proofs.Common.{◌≡◌, false, map, take}
use Rattle.std.specs.Prelude.{IfSome}
use Rattle.pdb_run.specs.Inputs.{begins_as_one}
use Rattle.pdb_run.proofs.io.begins_as_one.Given as goal

-- what is under the name begins in none of the ways so far
abbrev pub invariant-loop-front : goal.invariant-loop-front
invariant-loop-front g l =
    IfSome (g.S.Shelf.held l.shelf) (λ told. begins_as_one told l.name (map (λ front. front.now) (take l.front-index l.fronts)) ≡ false)
