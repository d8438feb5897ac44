-- Masks: bit x stands for the number x.
use Rattle.std.specs.Prelude.{◌≡◌, ℕ, ◌%◌, ◌^◌, ◌==◌, ◌↔◌, Bool, List, filter, count_ones}
use Rattle.std.specs.Int.{bit_at}
use Rattle.std.specs.List.{range_with_len}

-- whether x is of the mask
abbrev pub has_bit : ℕ → ℕ → Bool
has_bit mask x = bit_at mask x == 1

-- the numbers below n whose bits are set, ascending
unfoldable pub numbers_below : ℕ → ℕ → List ℕ
numbers_below n mask = filter (has_bit mask) (range_with_len 0 n)

-- those of a mask of 32 bits
abbrev pub numbers_of : ℕ → List ℕ
numbers_of mask = numbers_below 32 mask

-- the bits that are set are those of the numbers with the property
abbrev pub IsMaskOf : ℕ → (ℕ → Type 0) → Type 0
IsMaskOf mask Has = (x : ℕ) → (bit_at mask x ≡ 1) ↔ Has x

-- how many bits are set below x
abbrev pub ones_below : ℕ → ℕ → ℕ
ones_below mask x = count_ones (mask % 2 ^ x)
