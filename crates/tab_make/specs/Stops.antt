-- Why a table is not made to its end.
use Rattle.tab_make.specs.declared.faults.MakeFault.{MakeFault}
use Rattle.tab_make.specs.declared.faults.MakeFault.TheVariants.{Memory, Wrong}
use Rattle.tab_make.specs.declared.faults.Unmade.{Unmade}
use Rattle.tab_make.specs.declared.faults.Unmade.TheVariants.{NoMemory, WrongNumber}

-- as a fault: a number that is none of its kind says that the maker is wrong
abbrev pub of_stop : Unmade → MakeFault
of_stop NoMemory = Memory
of_stop WrongNumber = Wrong
