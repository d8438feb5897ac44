-- Ranks: the places of placements among all placements in lexicographic order.
use Rattle.std.specs.Prelude.{◌≡◌, ℕ, zero, suc, ◌-◌, ◌*◌, ◌==◌, not, List, [], ◌∷◌, length, map, filter, slice_get, Some, flat_map}
use Rattle.std.specs.List.{range_with_len}

-- the others of these cells
abbrev pub without : ℕ → List ℕ → List ℕ
without c cs = filter (λ d. not (d == c)) cs

-- the lists of k different ones of these cells: for each first cell in order, the lists of the others
abbrev pub lists_of : ℕ → List ℕ → List (List ℕ)
lists_of zero cs = [] ∷ []
lists_of (suc k) cs = flat_map (λ c. map (λ p. c ∷ p) (lists_of k (without c cs))) cs

-- the lists of k different cells of side n
unfoldable pub placements : ℕ → ℕ → List (List ℕ)
placements n k = lists_of k (range_with_len 0 (n * n))

-- m · (m - 1) · .. · (m - k + 1): the product of k factors, each one less than the one before
abbrev pub falling_factorial : ℕ → ℕ → ℕ
falling_factorial m zero = 1
falling_factorial m (suc k) = m * falling_factorial (m - 1) k

-- the place of a list of cells among all of its length
abbrev pub IsRank : ℕ → List ℕ → ℕ → Type 0
IsRank n cells r = slice_get (placements n (length cells)) r ≡ Some cells
