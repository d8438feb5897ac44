-- How more of members becomes known.
use Rattle.std.specs.Prelude.{◌≡◌, ◌≢◌, ◌⊎◌, ℕ, ◌^◌, ◌<◌, length, slice_index}
use Rattle.std.specs.Int.{bit_at}
use Rattle.set_sum.specs.declared.known.Known.{Known}

-- one place more is known: the entry stands there, and all other places are as before
pub record IsNoted (place entry : ℕ) (known now : Known) : Type 0 where
  pub size : length now.entries ≡ length known.entries
  pub small : now.places < 2 ^ 32
  pub here : slice_index now.entries place ≡ entry
  pub others : (p : ℕ) → p ≢ place → (bit_at now.places p ≡ bit_at known.places p) × (slice_index now.entries p ≡ slice_index known.entries p)

-- each place that is known was known before, with the same entry, or is one of these places and has the other's entry
pub record IsJoined (places : ℕ) (other known now : Known) : Type 0 where
  pub size : length now.entries ≡ length known.entries
  pub small : now.places < 2 ^ 32
  pub each : (p : ℕ) → bit_at now.places p ≡ 1 →
      ((bit_at known.places p ≡ 1) × (slice_index now.entries p ≡ slice_index known.entries p)) ⊎
      ((bit_at places p ≡ 1) × (slice_index now.entries p ≡ slice_index other.entries p))
