-- What holds of all files of exact tables.
use Rattle.std.specs.Prelude.{◌≡◌, ℕ, ◌<◌, List, slice_index}
use Rattle.tab_file.specs.Tables.{Table}
use Rattle.tab_rule.specs.ExactTables.{IsExactFile}

-- the numbers are bytes
abbrev pub AreBytes : List ℕ → Type 0
AreBytes file = (i : ℕ) → slice_index file i < 256

-- two exact files of one pattern are the same bytes
abbrev pub PatternsHaveOneExactFile : Type 0
PatternsHaveOneExactFile =
    (t u : Table) (f g : List ℕ) → AreBytes f → AreBytes g → IsExactFile t f → IsExactFile u g → t.pattern ≡ u.pattern → f ≡ g
