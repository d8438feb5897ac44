-- Layers of a table: the entries that hold one number.
use Rattle.std.specs.Prelude.{ℕ, List, ◌==◌, filter, length, slice_index}
use Rattle.std.specs.List.{range_with_len}

-- the numbers of the entries that hold d among so many from one on, from the least on
abbrev pub layer_from : ℕ → List ℕ → ℕ → ℕ → List ℕ
layer_from d entries from count = filter (λ i. slice_index entries i == d) (range_with_len from count)

-- the numbers of all entries that hold d, from the least on
abbrev pub layer_of : ℕ → List ℕ → List ℕ
layer_of d entries = layer_from d entries 0 (length entries)
