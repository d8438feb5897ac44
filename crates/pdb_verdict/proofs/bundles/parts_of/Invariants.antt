use Rattle.std.proofs.Common.{take}
use Rattle.pdb_run.specs.Answers.{all_bytes}
use Rattle.pdb_verdict.specs.Steps.{ArePartsOf}
use Rattle.pdb_verdict.proofs.bundles.parts_of.Given as goal

-- the parts are those of the first files
abbrev pub invariant-loop-file : goal.invariant-loop-file
invariant-loop-file g l = ArePartsOf l.fold (all_bytes (take l.file-index l.files)) l.parts.items
