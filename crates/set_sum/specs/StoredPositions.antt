-- How a position is stored: the numbers of the board, and their cells.
use Rattle.std.specs.Prelude.{◌≡◌, ℕ, ◌*◌, List, length, take}
use Rattle.puz_board.specs.Boards.{IsBoardOf}
use Rattle.puz_board.specs.Transposing.{transposed}
use Rattle.tab_rule.specs.Counts.{AreCellsOf}
use Rattle.set_sum.specs.ShownSums.{ShownSums}
use Rattle.set_sum.specs.declared.positions.Position.TheInside.{Inside}

-- the numbers of the board
abbrev pub numbers_shown : Inside → List ℕ
numbers_shown p = take (p.bundle.now.side * p.bundle.now.side) p.numbers

-- the bundle and the board
abbrev pub position_shown : Inside → ShownSums
position_shown p = record { bundle = p.bundle.now; board = numbers_shown p }

-- these are the fields of a position
pub record IsStoredPosition (p : Inside) : Type 0 where
  pub space : length p.numbers ≡ 25
  pub board : IsBoardOf p.bundle.now.side (numbers_shown p)
  pub room : length p.cells ≡ 25
  pub cells : AreCellsOf p.cells (numbers_shown p)
  pub room_transposed : length p.transposed ≡ 25
  pub transposed : AreCellsOf p.transposed (transposed (numbers_shown p))
