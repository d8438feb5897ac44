-- The number by which a caller of the program sees how a run ended.
use Rattle.std.specs.Prelude.{ℕ}
use Rattle.pdb_run.specs.declared.statuses.Status.{Status}
use Rattle.pdb_run.specs.declared.statuses.Status.TheVariants.{Yes, Refused, Fault, NoMemory}

-- 0 for a yes, 1 for a refusal, 2 for bad words or a fault of a read, a write or a maker, 3 for want of memory
abbrev pub status_number : Status → ℕ
status_number Yes = 0
status_number Refused = 1
status_number Fault = 2
status_number NoMemory = 3
