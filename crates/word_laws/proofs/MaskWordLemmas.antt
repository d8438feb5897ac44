-- What is read of tiles that are written with commas between them.
use Rattle.std.proofs.Common.{◌≡◌, ◌<◌, ◌∙◌, arith, ap, refl, false, ℕ, Bool, List, [], ◌∷◌, ◌++◌, Some, codes, decimal, length, map}
use Rattle.std.specs.List.{All, AllByRecursion, join_with_byte, position_or_len, slice_split}
use Rattle.std.specs.Prelude.{◌==◌}
use Rattle.std.specs.Str.Parse.{AllDigits}
use Rattle.std.proofs.lemmas.Bool.Decides.{nat_tests}
use Rattle.std.proofs.lemmas.Fmt.{decimal_is_IsNumeral}
use Rattle.std.proofs.lemmas.List.Elements.{All-from_recursion}
use Rattle.std.proofs.lemmas.List.Splits.{slice_split_at, slice_split_none}
use Rattle.std.proofs.lemmas.Slice.Eq.{bytes_eq-Decides}
use Rattle.clap.specs.Walk.{Text}
use Rattle.pdb_words.specs.Masks.{is_dash, mask_of_tiles, mask_written, tile_written, tiles_mask, tiles_named, tiles_written}
use Rattle.word_laws.specs.MaskWords.{AreTiles, tiles_word}

abbrev is_comma : ℕ → Bool
is_comma byte = byte == 44

-- a digit is no comma
no_comma : (ds : List ℕ) → AllDigits 10 ds → AllByRecursion (λ d. is_comma d ≡ false) ds
no_comma [] all = tt
no_comma (d ∷ ds) all = (grind (arith, nat_tests), no_comma ds all.1)

abbrev AreSmall : List ℕ → Type 0
AreSmall tiles = AllByRecursion (λ tile. tile < 32) tiles

-- the decimal of a tile has no comma, and is read as the tile
apart_from_commas : (tile : ℕ) → tile < 32 → All (λ d. is_comma d ≡ false) (decimal tile)
apart_from_commas tile small =
    All-from_recursion (λ d. is_comma d ≡ false) (decimal tile) (no_comma (decimal tile) (decimal_is_IsNumeral tile (omega arith)).0.1)

tile_back : (tile : ℕ) → tile < 32 → tile_written (decimal tile) ≡ Some tile
tile_back tile small = grind (arith, nat_tests, decimal_is_IsNumeral tile (omega arith), bytes_eq-Decides (decimal tile) (decimal tile))

-- the parts are the decimals
parts_back : (tile : ℕ) (tiles : List ℕ) → AreSmall (tile ∷ tiles)
    → slice_split is_comma (join_with_byte 44 (map decimal (tile ∷ tiles))) ≡ map decimal (tile ∷ tiles)
parts_back tile [] small = slice_split_none is_comma (decimal tile) (apart_from_commas tile small.0)
parts_back tile (next ∷ tiles) small =
    slice_split_at is_comma (decimal tile) 44 (join_with_byte 44 (map decimal (next ∷ tiles))) (apart_from_commas tile small.0) refl ∙
    ap (λ (parts : List Text). decimal tile ∷ parts) (parts_back next tiles small.1)

-- a digit is no dash
no_dash : (ds : List ℕ) → AllDigits 10 ds → position_or_len is_dash ds ≡ length ds
no_dash [] all = refl
no_dash (d ∷ ds) all = grind (arith, nat_tests, no_dash ds all.1)

-- so the decimal of a tile names this tile alone
named_back : (tile : ℕ) → tile < 32 → tiles_named (decimal tile) ≡ Some (tile ∷ [])
named_back tile small =
    grind (arith, nat_tests, no_dash (decimal tile) (decimal_is_IsNumeral tile (omega arith)).0.1, tile_back tile small)

-- and the tiles are read of them
tiles_back : (tiles : List ℕ) → AreSmall tiles → tiles_written (map decimal tiles) ≡ Some tiles
tiles_back [] small = refl
tiles_back (tile ∷ tiles) small = rw (named_back tile small.0, tiles_back tiles small.1) refl

behind_front : (text : Text) → mask_written (codes "tiles:" ++ text) ≡ tiles_mask text
behind_front text = refl

-- so their mask is written
pub mask_back : (tiles : List ℕ) → AreTiles tiles → mask_written (tiles_word tiles) ≡ Some (mask_of_tiles tiles)
mask_back [] are = absurd (omega (arith, are.some))
mask_back (tile ∷ tiles) are =
    behind_front (join_with_byte 44 (map decimal (tile ∷ tiles))) ∙ (rw (parts_back tile tiles are.small, tiles_back (tile ∷ tiles) are.small, are.apart) refl)
