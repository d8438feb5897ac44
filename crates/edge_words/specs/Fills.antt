-- Words of the placements of some runs, one after the other by their indexes.
use Rattle.std.specs.Prelude.{◌≡◌, ℕ, ◌+◌, ◌-◌, ◌*◌, ◌^◌, ◌<◌, ◌≤◌, ◌⊎◌, ⊤, List, length, slice_index}
use Rattle.pat_place.specs.Patterns.{ShownPattern}
use Rattle.pat_place.specs.Placements.{IsFree}
use Rattle.tab_runs.specs.RunPlaces.{IsRun}
use Rattle.tab_runs.specs.Runs.{with_last}
use Rattle.edge_words.specs.Indexes.{index_count, index_in, most_words}
use Rattle.edge_words.specs.Words.{IsEdgeWord}
use Rattle.edge_words.specs.declared.fills.Span.{Span}

-- how many indexes of runs there are
abbrev pub run_count : ShownPattern → ℕ
run_count p = (p.side * p.side) ^ (length p.tiles - 1)

-- some indexes of runs
pub record IsSpan (p : ShownPattern) (s : Span) : Type 0 where
  pub order : s.low ≤ s.high
  pub within : s.high ≤ run_count p

-- where the word of a run's placement is
abbrev pub place_in : ShownPattern → Span → List ℕ → ℕ → ℕ
place_in p s cells last = (index_in p cells - s.low) * (p.side * p.side) + last

-- the words of those placements of the span's runs of which this holds tell of their moves
pub record AreTold (p : ShownPattern) (s : Span) (Done : ℕ → ℕ → Type 0) (words : List ℕ) : Type 0 where
  pub size : length words ≡ (s.high - s.low) * (p.side * p.side)
  pub each : (cells : List ℕ) (last : ℕ) → IsRun p cells → IsFree p.side cells last → s.low ≤ index_in p cells → index_in p cells < s.high
      → Done (index_in p cells) last
      → IsEdgeWord p (with_last cells last) (slice_index words (place_in p s cells last))

-- all of them
abbrev pub AreAllTold : ShownPattern → Span → List ℕ → Type 0
AreAllTold p s words = AreTold p s (λ index last. ⊤) words

-- those of the runs with the indexes below this one
abbrev pub AreToldBelow : ShownPattern → Span → ℕ → List ℕ → Type 0
AreToldBelow p s end words = AreTold p s (λ index last. index < end) words

-- and of the next run those with a last cell below this one
abbrev pub AreToldUpTo : ShownPattern → Span → ℕ → ℕ → List ℕ → Type 0
AreToldUpTo p s next end words = AreTold p s (λ index last. (index < next) ⊎ ((index ≡ next) × (last < end))) words

-- there is a place for each word of a span, and they aren't too many
pub record IsFillable (p : ShownPattern) (s : Span) (words : List ℕ) : Type 0 where
  pub span : IsSpan p s
  pub few : index_count p ≤ most_words
  pub size : length words ≡ (s.high - s.low) * (p.side * p.side)
