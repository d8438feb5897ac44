-- What a count tells of the solutions of a board, of which all have one parity.
use Rattle.std.specs.Prelude.{ℕ, ◌+◌, ◌%◌, ◌==◌, Bool, true, false, List, if◌then◌else◌}
use Rattle.puz_board.specs.Parity.{blank_parity}
use Rattle.tab_rule.specs.declared.tables.Count.{Count}
use Rattle.tab_rule.specs.declared.tables.Count.TheVariants.{Finite, Never}

-- the number where it has this parity, and otherwise the next one
abbrev pub raised : ℕ → ℕ → ℕ
raised parity d = if d % 2 == parity then d else d + 1

-- the count as it is; or by parity, where a finite one is raised to that of the blank's distance from cell 0
abbrev pub told_of : Bool → List ℕ → Count → Count
told_of true b (Finite d) = Finite (raised (blank_parity b) d)
told_of true b Never = Never
told_of false b count = count
