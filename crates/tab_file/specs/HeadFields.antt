-- The fields of a header, in any bytes.
use Rattle.std.specs.Prelude.{ℕ, List, [], ◌∷◌, ◌++◌, codes, drop, slice_index}
use Rattle.byteorder.specs.Endian.{big_number}

-- how it begins: the letters of the format, and the version
abbrev pub table_signature : List ℕ
table_signature = codes "PDBT" ++ 1 ∷ []

-- the side of the board
abbrev pub side_in : List ℕ → ℕ
side_in file = slice_index file 5

-- how many tiles there are
abbrev pub size_in : List ℕ → ℕ
size_in file = slice_index file 6

-- always 0
abbrev pub spare_in : List ℕ → ℕ
spare_in file = slice_index file 7

-- bit t is set for tile t
abbrev pub mask_in : List ℕ → ℕ
mask_in file = big_number 4 (drop 8 file)

-- how many entries there are
abbrev pub entry_count_in : List ℕ → ℕ
entry_count_in file = big_number 8 (drop 12 file)
