-- Columns of bytes: one byte for each place.
use Rattle.std.specs.Prelude.{◌≡◌, ℕ, ◌<◌, ◌≤◌, ◌⊎◌, List, length, min, slice_index}

-- the places from one to another, the latter not among them, have the lesser bytes, and all others are as before
pub record AreLesserBetween (old others : List ℕ) (from to : ℕ) (new : List ℕ) : Type 0 where
  pub len : length new ≡ length old
  pub inside : (i : ℕ) → from ≤ i → i < to → slice_index new i ≡ min (slice_index old i) (slice_index others i)
  pub outside : (i : ℕ) → (i < from) ⊎ (to ≤ i) → slice_index new i ≡ slice_index old i
