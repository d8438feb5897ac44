-- What is read of the bytes of a header that was written.
use Rattle.std.proofs.Common.{◌≡◌, ℕ, ◌^◌, ◌<◌, List, [], ◌∷◌, ◌++◌, length, Ok, refl, ap, ◌∙◌, arith}
use Rattle.byteorder.specs.Endian.{big_bytes}
use Rattle.byteorder.specs.Numbers.{big_number-reads_back}
use Rattle.puz_board.specs.Masks.{numbers_of}
use Rattle.pat_place.specs.Patterns.{ShownPattern, IsPattern}
use Rattle.tab_file.specs.Tables.{entry_count}
use Rattle.tab_file.specs.TableFiles.{IsTableFile}
use Rattle.tab_file.specs.HeadFields.{table_signature}
use Rattle.tab_file.specs.HeadFaults.{table_of_file}
use Rattle.tab_file.proofs.FileLemmas.{table_of_file-file}

-- the header with these fields
abbrev written : ℕ → ℕ → ℕ → ℕ → List ℕ
written side size mask count = table_signature ++ side ∷ size ∷ 0 ∷ [] ++ big_bytes 4 mask ++ big_bytes 8 count

module _ (p : ShownPattern) (side size mask count : ℕ) (good : IsPattern p) (is_side : side ≡ p.side) (is_size : size ≡ length p.tiles)
    (is_mask : numbers_of mask ≡ p.tiles) (mask_fits : mask < 2 ^ 32) (is_count : count ≡ entry_count p) (count_fits : count < 2 ^ 64)
    (entries : List ℕ) (all : length entries ≡ entry_count p) where
  -- the header of a pattern, with the entries of a table behind it, is the file of that table
  pub IsTableFile-written : IsTableFile (record { pattern = p; entries = entries }) (written side size mask count ++ entries)
  IsTableFile-written = record {
    table = record { pattern = good; entries = all };
    room = omega arith;
    begins = λ i. table_signature ++ is_side i ∷ is_size i ∷ 0 ∷ [];
    mask = ap numbers_of (big_number-reads_back 4 mask (big_bytes 8 count ++ entries) mask_fits) ∙ is_mask;
    count = big_number-reads_back 8 count entries count_fits ∙ is_count;
    entries = refl;
  }

  -- the header of a pattern, with the entries of a table behind it, is read as that table
  pub table_of_file-written : table_of_file (written side size mask count ++ entries) ≡ Ok (record { pattern = p; entries = entries })
  table_of_file-written = table_of_file-file (record { pattern = p; entries = entries }) (written side size mask count ++ entries) IsTableFile-written
