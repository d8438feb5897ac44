use Rattle.std.proofs.Common.{◌≡◌, take}
use Rattle.pdb_request.specs.Asked.{file_names, parts_shown}
use Rattle.pdb_parts.specs.Steps.{HasReadParts}
use Rattle.pdb_parts.proofs.runs.read_parts.Given as goal

-- the board text and the files so far were read, and each of these is noted
abbrev pub invariant-loop-name : goal.invariant-loop-name
invariant-loop-name g l =
    HasReadParts (parts_shown l.asked) (g.I.Io.world l.fn.io) (g.I.Io.world l.io) (file_names (take l.name-index l.asked.answers.items)) l.noted
    × (g.I.Io.streams l.io ≡ g.I.Io.streams l.fn.io)
