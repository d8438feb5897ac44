-- Lower bounds of solutions.
use Rattle.std.specs.Prelude.{ℕ, ◌≤◌, List, length, ⊤}
use Rattle.puz_board.specs.Paths.{IsSolution}
use Rattle.tab_rule.specs.declared.tables.Count.{Count}
use Rattle.tab_rule.specs.declared.tables.Count.TheVariants.{Finite, Never}

-- no solution of the board has fewer than r steps
abbrev pub IsBounded : List ℕ → ℕ → Type 0
IsBounded b r = (path : List ℕ) → IsSolution b path → r ≤ length path

-- the board has no solution
abbrev pub IsUnsolvable : List ℕ → Type 0
IsUnsolvable b = (path : List ℕ) → ¬ IsSolution b path

-- a finite count is at most the number of steps of any solution; never means that there is none
abbrev pub BoundsSolutions : List ℕ → Count → Type 0
BoundsSolutions b (Finite d) = IsBounded b d
BoundsSolutions b Never = IsUnsolvable b

-- the count is never, or at least r
abbrev pub CountReaches : Count → ℕ → Type 0
CountReaches (Finite d) r = r ≤ d
CountReaches Never r = ⊤
