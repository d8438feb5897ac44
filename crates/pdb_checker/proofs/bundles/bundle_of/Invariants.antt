use Rattle.std.proofs.Common.{false, take}
use Rattle.pdb_verdict.specs.Steps.{ArePartsOf}
use Rattle.pdb_checker.specs.Claims.{files_of}
use Rattle.pdb_checker.proofs.bundles.bundle_of.Given as goal

-- the parts are the tables of the first files
abbrev pub invariant-loop-table : goal.invariant-loop-table
invariant-loop-table l = ArePartsOf false (files_of (take l.table-index l.over.tables.now)) l.parts.items
