-- What holds of all logs that are good over folded tables.
use Rattle.std.specs.Prelude.{ℕ, List, true, false}
use Rattle.pdb_verdict.specs.Bound.{IsProvedBound}

-- a log that proves a bound over folded tables proves it over the full ones
abbrev pub FoldedLogsAreGoodUnfolded : Type 0
FoldedLogsAreGoodUnfolded =
    (board : List ℕ) (sets log : List ℕ) (tables : List (List ℕ)) (bound : ℕ) →
    IsProvedBound true board sets log tables bound → IsProvedBound false board sets log tables bound
