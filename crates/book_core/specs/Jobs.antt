-- Jobs: how often each was drawn.
use Rattle.std.specs.Prelude.{ℕ, ◌==◌, if◌then◌else◌, nat_lt, List, length}
use Rattle.std.specs.List.{sum_by, count_by}
use Rattle.book_core.specs.Passes.{Deeds}

-- how often a number stands in a list
abbrev pub times : ℕ → List ℕ → ℕ
times x xs = count_by (λ y. y == x) xs

-- how often a job was drawn, by all passes together
abbrev pub times_drawn : ℕ → List Deeds → ℕ
times_drawn job passes = sum_by (λ p. times job p.drawn) passes

-- how many jobs were drawn, by all passes together
abbrev pub drawn_count : List Deeds → ℕ
drawn_count passes = sum_by (λ p. length p.drawn) passes

-- once for a number below n, and else never
abbrev pub once_below : ℕ → ℕ → ℕ
once_below x n = (if nat_lt x n then 1 else 0)
