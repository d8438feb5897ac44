-- Boards with which searches begin, and what the sets of a bundle say of them.
use Rattle.std.specs.Prelude.{◌≡◌, ℕ, ◌<◌, ◌≤◌, List, length, slice_index, Some, None}
use Rattle.tab_rule.specs.declared.tables.Count.TheVariants.{Finite, Never}
use Rattle.puz_board.specs.Boards.{IsBoardOf}
use Rattle.set_sum.specs.Bundles.{BundleSays, ShownBundle}
use Rattle.puz_walk.specs.declared.starts.Start.{Start}

-- the sum that each set of the bundle says of the board is the one that is kept for it, and no set says that it has no solution
pub record AreSumsOn (v : ShownBundle) (b sums : List ℕ) : Type 0 where
  pub room : length sums ≡ 16
  pub each : (set d : ℕ) → BundleSays v set b (Finite d) → d ≡ slice_index sums set
  pub some : (set : ℕ) → ¬ BundleSays v set b Never

-- each set says a sum of at most 255 of the board
abbrev pub HasSmallSums : ShownBundle → List ℕ → Type 0
HasSmallSums v b = (set : ℕ) → set < length v.sets → (d : ℕ) × BundleSays v set b (Finite d) × (d ≤ 255)

-- a board of the bundle's side with the sums of its sets, and with none where these aren't all 255 at most
pub record IsStart (v : ShownBundle) (start : Start) : Type 0 where
  pub board : IsBoardOf v.side start.board
  pub some : (sums : List ℕ) → start.sums ≡ Some sums → AreSumsOn v start.board sums
  pub none : start.sums ≡ None → ¬ HasSmallSums v start.board
