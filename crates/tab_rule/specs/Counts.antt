-- What a table tells of a board, and how many of its entries tell what.
use Rattle.std.specs.Prelude.{◌≡◌, ℕ, ◌<◌, ◌==◌, count_by, List, length, slice_index}
use Rattle.puz_board.specs.Boards.{cell_of}
use Rattle.puz_board.specs.Costs.{IsLeastCost, IsNeverHome}
use Rattle.tab_file.specs.Counts.{IsGreatestCount}
use Rattle.tab_file.specs.EntryBytes.{no_way_home}
use Rattle.tab_rule.specs.declared.census.Census.{Census}
use Rattle.tab_rule.specs.declared.tables.Count.{Count}
use Rattle.tab_rule.specs.declared.tables.Count.TheVariants.{Finite, Never}

-- what a table of these tiles says of a board: the least cost at which they come home, or never
abbrev pub TableSays : List ℕ → List ℕ → Count → Type 0
TableSays tiles b (Finite d) = IsLeastCost tiles b d
TableSays tiles b Never = IsNeverHome tiles b

-- the list has the cell of each number of the board, in the order of the numbers; what follows these tells nothing
abbrev pub AreCellsOf : List ℕ → List ℕ → Type 0
AreCellsOf found b = (number : ℕ) → number < length b → slice_index found number ≡ cell_of number b

-- the census of a table's entries: how many there are, how many say that no walk leads home, and the greatest count
pub record IsCensusOf (entries : List ℕ) (census : Census) : Type 0 where
  pub entries_counted : census.entries ≡ length entries
  pub never_counted : census.unreachable ≡ count_by (λ e. e == no_way_home) entries
  pub greatest : IsGreatestCount entries (length entries) census.deepest
