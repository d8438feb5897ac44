use Rattle.std.proofs.Common.{◌≡◌, ◌++◌, map, take}
use Rattle.pdb_request.specs.Asked.{file_names}
use Rattle.pdb_run.specs.Inputs.{wanted_of}
use Rattle.pdb_verdict.specs.Limits.{a_table}
use Rattle.pdb_verdict.proofs.limits.with_tables.Given as goal

-- so many tables stand behind the first inputs
abbrev pub invariant-loop-name : goal.invariant-loop-name
invariant-loop-name l = map wanted_of l.all.items ≡ map wanted_of l.first ++ map a_table (file_names (take l.name-index l.names))
