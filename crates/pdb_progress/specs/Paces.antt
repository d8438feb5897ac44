-- How fast a search expands boards.
use Rattle.std.specs.Prelude.{ℕ, ◌*◌, ◌/◌, ◌<◌, ◌≤◌, ◌^◌}

-- so many boards were expanded in so many milliseconds: in some, and at most 2 ^ 53 boards
pub record IsPace (boards millis : ℕ) : Type 0 where
  pub some : 0 < millis
  pub few : boards ≤ 2 ^ 53

-- that is so many boards a second, rounded down
abbrev pub boards_a_second : ℕ → ℕ → ℕ
boards_a_second boards millis = 1000 * boards / millis
