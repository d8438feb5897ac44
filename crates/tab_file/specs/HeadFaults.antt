-- What keeps bytes from being a table file: six faults, of which the first that stands is named.
use Rattle.std.specs.Prelude.{◌≡◌, ◌≢◌, ℕ, ◌+◌, ◌*◌, ◌<◌, ◌≤◌, ◌==◌, nat_eq, nat_lt, nat_le, ◌&&◌, not, Bool, List, [], ◌∷◌, drop, length, take, find, Option, Result, Ok, Err}
use Rattle.std.specs.List.{AllByRecursion, list_all, starts_with}
use Rattle.std.specs.Option.{option_map_or}
use Rattle.puz_board.specs.Masks.{numbers_of}
use Rattle.pat_place.specs.Patterns.{ShownPattern, IsPattern, most_tiles}
use Rattle.tab_file.specs.Tables.{Table, entry_count}
use Rattle.tab_file.specs.HeadFields.{table_signature, side_in, size_in, spare_in, mask_in, entry_count_in}
use Rattle.tab_file.specs.declared.headers.HeadFault.{HeadFault}
use Rattle.tab_file.specs.declared.headers.HeadFault.TheVariants.{T1, T2, T3, T4, T5, T6}

-- the pattern that the side and the mask of a header name
abbrev pub pattern_in : List ℕ → ShownPattern
pattern_in file = record { side = side_in file; tiles = numbers_of (mask_in file) }

-- ---- the faults, in their order

-- what each fault says of a file
abbrev pub Stands : HeadFault → List ℕ → Type 0
Stands T1 file = length file < 20
Stands T2 file = take 5 file ≢ table_signature
Stands T3 file = ¬ ((2 ≤ side_in file) × (side_in file ≤ 5))
Stands T4 file = ¬ (IsPattern (pattern_in file) × (size_in file ≡ length (pattern_in file).tiles) × (spare_in file ≡ 0))
Stands T5 file = entry_count_in file ≢ entry_count (pattern_in file)
Stands T6 file = length file ≢ 20 + entry_count_in file

-- the faults before this one
abbrev pub earlier : HeadFault → List HeadFault
earlier T1 = []
earlier T2 = T1 ∷ []
earlier T3 = T1 ∷ T2 ∷ []
earlier T4 = T1 ∷ T2 ∷ T3 ∷ []
earlier T5 = T1 ∷ T2 ∷ T3 ∷ T4 ∷ []
earlier T6 = T1 ∷ T2 ∷ T3 ∷ T4 ∷ T5 ∷ []

-- the fault stands, and none of those before it
pub record IsFirstFault (fault : HeadFault) (file : List ℕ) : Type 0 where
  pub stands : Stands fault file
  pub first : AllByRecursion (λ other. ¬ Stands other file) (earlier fault)

-- ---- the same as tests

-- whether tiles that ascend make a pattern
abbrev pub is_pattern : ShownPattern → Bool
is_pattern p =
    nat_le 2 p.side && nat_le p.side 5 && list_all (λ t. nat_lt 0 t && nat_lt t (p.side * p.side)) p.tiles &&
    nat_lt 0 (length p.tiles) && nat_le (length p.tiles) (most_tiles p.side)

-- whether the fault stands
abbrev pub is_standing : HeadFault → List ℕ → Bool
is_standing T1 file = nat_lt (length file) 20
is_standing T2 file = not (starts_with nat_eq file table_signature)
is_standing T3 file = not (nat_le 2 (side_in file) && nat_le (side_in file) 5)
is_standing T4 file = not (is_pattern (pattern_in file) && size_in file == length (pattern_in file).tiles && spare_in file == 0)
is_standing T5 file = not (entry_count_in file == entry_count (pattern_in file))
is_standing T6 file = not (length file == 20 + entry_count_in file)

-- the first fault that stands
unfoldable pub first_fault : List ℕ → Option HeadFault
first_fault file = find (λ fault. is_standing fault file) (T1 ∷ T2 ∷ T3 ∷ T4 ∷ T5 ∷ T6 ∷ [])

-- the table in a file, or the first fault that stands
unfoldable pub table_of_file : List ℕ → Result Table HeadFault
table_of_file file = option_map_or Err (first_fault file) (Ok (record { pattern = pattern_in file; entries = drop 20 file }))
