-- Which faults keep something from being made.
use Rattle.std.specs.Prelude.{⊤, ℕ, ◌⊎◌, List, true}
use Rattle.set_sum.specs.Bundles.{SaysAtLeast, ShownBundle}
use Rattle.tab_make.specs.declared.faults.MakeFault.{MakeFault}
use Rattle.tab_make.specs.declared.faults.MakeFault.TheVariants.{K5, Memory, Wrong}
pub use Rattle.tab_make.specs.Faults.{IsBuildFault}
use Rattle.puz_board.specs.Solvable.{HasTheBlanksParity}

-- no log proves how few moves solve the board: it has no solution, by the parity of its numbers, or a set says of it never, or, by
-- parity, more moves than the greatest bound of a lemma, which is 255
abbrev pub IsOutOfReach : ShownBundle → List ℕ → Type 0
IsOutOfReach v b = (¬ HasTheBlanksParity b) ⊎ ((set : ℕ) × SaysAtLeast v true set b 256)

-- no log is written for this alone: it would be too long, there isn't the memory, or the maker is wrong
abbrev pub IsLogFault : MakeFault → Type 0
IsLogFault K5 = ⊤
IsLogFault Memory = ⊤
IsLogFault Wrong = ⊤
IsLogFault fault = ⊥
