-- The first number that passes a test.
use Rattle.std.specs.Prelude.{ℕ, Bool, Option}
use Rattle.std.specs.List.{find, range_with_len}

-- the first of the numbers 0, 1, .. below n that passes the test
unfoldable pub first_below : (ℕ → Bool) → ℕ → Option ℕ
first_below test n = find test (range_with_len 0 n)
