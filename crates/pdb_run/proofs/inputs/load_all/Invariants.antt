use Rattle.std.proofs.Common.{◌≡◌, ◌≤◌, length, map, take}
use Rattle.std.specs.Prelude.{vec_capacity, vec_len}
use Rattle.pdb_run.specs.Answers.{all_bytes}
use Rattle.pdb_run.specs.Inputs.{wanted_of}
use Rattle.pdb_run.specs.Io.{HasRead}
use Rattle.pdb_run.proofs.inputs.load_all.Given as goal

-- the inputs so far were read in their order, and there is room for all of them
abbrev pub invariant-loop-input : goal.invariant-loop-input
invariant-loop-input g l =
    HasRead (map wanted_of (take l.input-index l.wanted)) (g.I.Io.world l.fn.io) (g.I.Io.world l.io) (all_bytes l.inputs.items)
    × (g.I.Io.streams l.io ≡ g.I.Io.streams l.fn.io)
    × (length l.wanted ≤ vec_capacity l.inputs)
    × (vec_len l.inputs ≡ l.input-index)
