-- Moves of tiles between the placements of runs.
use Rattle.std.specs.Prelude.{◌≡◌, ◌≢◌, ◌↔◌, ℕ, ◌+◌, ◌-◌, ◌*◌, ◌/◌, ◌%◌, ◌<◌, ◌≤◌, not, true, false, Bool, List, Some, length, slice_index, slice_set}
use Rattle.std.specs.Int.{bit_at}
use Rattle.puz_board.specs.Masks.{has_bit, ones_below}
use Rattle.puz_board.specs.Cells.{reverse_of, step_of}
use Rattle.puz_board.specs.declared.moves.Move.{Move}
use Rattle.pat_place.specs.Patterns.{ShownPattern, has}
use Rattle.pat_place.specs.Placements.{IsFree}
use Rattle.tab_runs.specs.RunPlaces.{IsRun}
use Rattle.tab_runs.specs.Runs.{with_last}
use Rattle.edge_words.specs.Indexes.{index_in}
use Rattle.edge_words.specs.Lookups.{IsRunOf, but_last}
use Rattle.edge_words.specs.Words.{IsEdgeWord, TellsOfMove, move_of}
use Rattle.edge_words.specs.declared.edges.Near.{Near}

-- the move takes the blank to the tile with this index from a free cell, and leads to this run
pub record IsNear (p : ShownPattern) (cells : List ℕ) (index : ℕ) (move : Move) (near : Near) : Type 0 where
  pub step : step_of p.side (slice_index cells index) (reverse_of move) ≡ Some near.from
  pub free : IsFree p.side cells near.from
  pub to : near.to ≡ slice_index cells index
  pub run : IsRunOf p near.run
  pub moved : but_last p near.run.cells ≡ slice_set cells index near.from

-- before the words of the run with these cells there end those of the runs with lower indexes, of some or of all
pub record AreBefore (p : ShownPattern) (cells before : List ℕ) : Type 0 where
  pub each : (others : List ℕ) (gap last : ℕ) → IsRun p others → IsFree p.side others last → 0 < gap → index_in p others + gap ≡ index_in p cells
      → gap * (p.side * p.side) ≤ length before
      → IsEdgeWord p (with_last others last) (slice_index before (length before - gap * (p.side * p.side) + last))

-- where the bit of the move back is clear in the words of the run after it, the move with this number raises the least cost
pub record AreEarlier (p : ShownPattern) (cells : List ℕ) (number : ℕ) (words : List ℕ) : Type 0 where
  pub odd : number % 2 ≡ 1
  pub room : length words ≡ p.side * p.side
  pub bits : (last : ℕ) → IsFree p.side cells last
      → TellsOfMove p (with_last cells last) (number / 4) (move_of number) (not (has_bit (slice_index words last) (number - 1)))

-- the move takes the blank to that tile from no free cell
abbrev pub HasNoOrigin : ShownPattern → List ℕ → ℕ → Move → Type 0
HasNoOrigin p cells index move =
    (from : ℕ) → step_of p.side (slice_index cells index) (reverse_of move) ≡ Some from → has cells from ≡ true

-- the bit is set where this holds, and the others stay
abbrev pub IsWith : Bool → ℕ → ℕ → ℕ → Type 0
IsWith true number word next = (bit_at next number ≡ 1) × ((x : ℕ) → x ≢ number → bit_at next x ≡ bit_at word x)
IsWith false number word next = next ≡ word

-- the bits of the moves with numbers below this one tell of them, and the others are clear
pub record IsToldBelow (p : ShownPattern) (cells : List ℕ) (number word : ℕ) : Type 0 where
  pub bits : (k : ℕ) → k < number → TellsOfMove p cells (k / 4) (move_of k) (has_bit word k)
  pub clear : (k : ℕ) → number ≤ k → bit_at word k ≡ 0

-- the same of each placement of the run with these cells
pub record AreBitsBelow (p : ShownPattern) (cells : List ℕ) (number : ℕ) (words : List ℕ) : Type 0 where
  pub room : length words ≡ 25
  pub each : (last : ℕ) → IsFree p.side cells last → IsToldBelow p (with_last cells last) number (slice_index words last)

-- one move more of those with the last tile in a cell below this one
pub record AreBitsUpTo (p : ShownPattern) (cells : List ℕ) (number end : ℕ) (words : List ℕ) : Type 0 where
  pub room : length words ≡ 25
  pub done : (last : ℕ) → IsFree p.side cells last → last < end → IsToldBelow p (with_last cells last) (number + 1) (slice_index words last)
  pub left : (last : ℕ) → IsFree p.side cells last → end ≤ last → IsToldBelow p (with_last cells last) number (slice_index words last)

-- the same of those in a mask from the lowest on, of which these are left
pub record AreBitsLeft (p : ShownPattern) (cells : List ℕ) (number mask left : ℕ) (words : List ℕ) : Type 0 where
  pub end : ℕ
  pub above : (c : ℕ) → (bit_at left c ≡ 1) ↔ ((bit_at mask c ≡ 1) × (end ≤ c))
  pub bits : AreBitsUpTo p cells number end words

-- and so many of them are done
pub record AreBitsLeftAt (p : ShownPattern) (cells : List ℕ) (number mask left place : ℕ) (words : List ℕ) : Type 0 where
  pub lefts : AreBitsLeft p cells number mask left words
  pub passed : place ≡ ones_below mask lefts.end

-- the words of the run's placements
pub record AreWordsOf (p : ShownPattern) (cells words : List ℕ) : Type 0 where
  pub room : length words ≡ 25
  pub each : (last : ℕ) → IsFree p.side cells last → IsEdgeWord p (with_last cells last) (slice_index words last)
