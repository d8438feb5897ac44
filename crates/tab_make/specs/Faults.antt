-- Which faults keep a table from being made.
use Rattle.std.specs.Prelude.{⊤}
use Rattle.tab_make.specs.declared.faults.MakeFault.{MakeFault}
use Rattle.tab_make.specs.declared.faults.MakeFault.TheVariants.{K3, Memory, Wrong}

-- no table is built for this alone: a count would be above 253, there isn't the memory, or the maker is wrong
abbrev pub IsBuildFault : MakeFault → Type 0
IsBuildFault K3 = ⊤
IsBuildFault Memory = ⊤
IsBuildFault Wrong = ⊤
IsBuildFault fault = ⊥
