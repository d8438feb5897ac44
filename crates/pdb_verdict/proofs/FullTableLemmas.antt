-- The tables of a bundle of full tables, by the files that they come of.
use Rattle.std.proofs.Common.{◌≡◌, ◌∙◌, ℕ, zero, suc, false, List, [], ◌∷◌, ◌++◌, Some, Vec, ap, length, refl, slice_get, slice_index_or, subst, sym}
use Rattle.std.specs.Option.{option_map}
use Rattle.std.proofs.lemmas.List.{length-map}
use Rattle.std.proofs.lemmas.Option.{get_or_from_slice_get, slice_get-map}
use Rattle.tab_file.specs.Tables.{Table}
use Rattle.tab_rule.specs.ExactTables.{IsExactFile}
use Rattle.tab_rule.proofs.OneResultLemmas.{exact_one}
use Rattle.set_sum.specs.Bundles.{ShownBundle}
use Rattle.set_sum.specs.Parts.{no_part, part_shown, parts_shown}
use Rattle.set_sum.specs.declared.parts.Part.TheVariants.{Full}
use Rattle.set_sum.proofs.AnswerLemmas.{all_get}
use Rattle.byte_io.specs.Shelf.{Bytes}
use Rattle.pdb_run.specs.Answers.{all_bytes}
use Rattle.pdb_verdict.specs.FileBundles.{AreExactFiles, IsBundleOfFiles, part_for, parts_for}

-- ---- files

-- the file behind those before it has their count as its number
pub file_at : {Z : Type 0} (before rest files : List (Vec ℕ Z)) (file : Vec ℕ Z) (now : Bytes) → now ≡ file.items → before ++ file ∷ rest ≡ files
    → slice_get (all_bytes files) (length before) ≡ Some now
file_at before rest files file now same whole = rw (← whole, same) (here before)
  where
    here : (of : List (Vec ℕ _)) → slice_get (all_bytes (of ++ file ∷ rest)) (length of) ≡ Some file.items
    here [] = refl
    here (f ∷ of) = here of

-- the file with a number is that of the exact table with this number
pub exact_at : (tables : List Table) (files : List Bytes) → AreExactFiles tables files → (number : ℕ) (file : Bytes) → slice_get files number ≡ Some file
    → (table : Table) × (slice_get tables number ≡ Some table) × IsExactFile table file
exact_at (t ∷ ts) (f ∷ fs) are zero file is = (t, refl, (let same : f ≡ file = cc in subst (IsExactFile t) same are.0))
exact_at (t ∷ ts) (f ∷ fs) are (suc number) file is = exact_at ts fs are.1 number file is
exact_at (t ∷ ts) [] are number file is = absurd are
exact_at [] (f ∷ fs) are number file is = absurd are
exact_at [] [] are number file is = absurd (let none : Some file ≡ slice_get [] number = sym is in cc)

exact_count : (tables : List Table) (files : List Bytes) → AreExactFiles tables files → length files ≡ length tables
exact_count [] [] are = refl
exact_count (t ∷ ts) (f ∷ fs) are = ap suc (exact_count ts fs are.1)
exact_count _ _ are = absurd are

-- ---- bundles

module _ (files : List Bytes) (sets : Bytes) (v : ShownBundle) (is : IsBundleOfFiles false files sets v) where
  -- a bundle has a table for each file
  pub table_count : length files ≡ length v.tables
  table_count = rw (is.makes.shown, length-map, length-map) (exact_count is.tables files is.exact)

  module _ (number : ℕ) (file : Bytes) (there : slice_get files number ≡ Some file) where
    -- the file with a number is that of an exact table
    pub file_exact : (table : Table) × IsExactFile table file
    file_exact = let found = exact_at is.tables files is.exact number file there in (found.0, found.2)

    module _ (table : Table) (exact : IsExactFile table file) where
      part_is : slice_get (parts_for false is.tables) number ≡ Some (Full table)
      part_is =
          let found = exact_at is.tables files is.exact number file there in
          let same : slice_get is.tables number ≡ Some table = found.1 ∙ ap Some (exact_one file found.0 table found.2 exact) in
          slice_get-map (part_for false) is.tables number ∙ ap (option_map (part_for false)) same

      -- the table with this number is shown as the full table of the file
      pub table_shown : part_shown (Full table) ≡ slice_index_or v.tables number no_part
      table_shown =
          let shown : slice_get (parts_shown (parts_for false is.tables)) number ≡ Some (part_shown (Full table)) =
          slice_get-map part_shown (parts_for false is.tables) number ∙ ap (option_map part_shown) part_is in
          sym (get_or_from_slice_get v.tables number (part_shown (Full table)) no_part (rw is.makes.shown shown))

      -- the table of the file has the side of the bundle
      pub table_side : table.pattern.side ≡ v.side
      table_side = all_get _ (parts_for false is.tables) number (Full table) part_is is.makes.alike.one_side ∙ sym is.makes.side

      -- the table of the file has the pattern of the table with this number
      pub table_pattern : table.pattern ≡ record { side = v.side; tiles = (slice_index_or v.tables number no_part).tiles }
      table_pattern = λ i. record { side = table_side i; tiles = (table_shown i).tiles }
