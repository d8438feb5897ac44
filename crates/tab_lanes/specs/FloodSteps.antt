-- How far columns of masks have grown, and what a step of a mask enters.
use Rattle.std.specs.Prelude.{◌≡◌, ◌≢◌, ℕ, ◌-◌, ◌%◌, ◌<◌, ◌≤◌, ◌⊎◌, List, length, slice_index}
use Rattle.std.specs.Int.{bit_at}
use Rattle.puz_board.specs.Masks.{IsMaskOf}

-- those from one place to another have, the latter not among them, and all others are as before
pub record AreGrownBetween (Has : ℕ → ℕ → ℕ → Type 0) (masks free : List ℕ) (from to : ℕ) (new : List ℕ) : Type 0 where
  pub len : length new ≡ length masks
  pub grown : (i : ℕ) → from ≤ i → i < to → IsMaskOf (slice_index new i) (Has (slice_index free i) (slice_index masks i))
  pub kept : (i : ℕ) → (i < from) ⊎ (to ≤ i) → slice_index new i ≡ slice_index masks i

-- the free cells outside the first column, which steps to the right may enter, and those outside the last one, for the left
pub record AreEntered (n free right left : ℕ) : Type 0 where
  pub right_is : IsMaskOf right (λ c. (bit_at free c ≡ 1) × (c % n ≢ 0))
  pub left_is : IsMaskOf left (λ c. (bit_at free c ≡ 1) × (c % n ≢ n - 1))
