-- Table files: 20 bytes of header, and behind them the entries, a byte for each.
-- The places of bytes are counted from 0, and a number of several bytes has its highest byte first.
use Rattle.std.specs.Prelude.{◌≡◌, ℕ, ◌≤◌, ◌^◌, List, [], ◌∷◌, ◌++◌, codes, drop, length, take}
use Rattle.byteorder.specs.Endian.{big_number}
use Rattle.puz_board.specs.Masks.{numbers_of}
use Rattle.tab_file.specs.Tables.{Table, IsTable, entry_count}

-- the header: `PDBT` and the version 1, the side, how many tiles there are, and 0; from byte 8 on the mask of the tiles, and from
-- byte 12 on how many entries there are; and from byte 20 on the entries
pub record IsTableFile (t : Table) (file : List ℕ) : Type 0 where
  pub table : IsTable t
  pub room : 20 ≤ length file
  pub begins : take 8 file ≡ codes "PDBT" ++ 1 ∷ t.pattern.side ∷ length t.pattern.tiles ∷ 0 ∷ []
  pub mask : numbers_of (big_number 4 (drop 8 file)) ≡ t.pattern.tiles
  pub count : big_number 8 (drop 12 file) ≡ entry_count t.pattern
  pub entries : drop 20 file ≡ t.entries

-- the most bytes of one
abbrev pub most_table_bytes : ℕ
most_table_bytes = 2 ^ 32
