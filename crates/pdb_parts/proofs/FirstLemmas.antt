-- The first line that is skipped.
use Rattle.std.proofs.Common.{◌≡◌, ◌∙◌, ℕ, suc, ◌+◌, Bool, true, false, List, [], ◌∷◌, ◌++◌, None, Some, Option, ap, arith, cond, length, not, refl, sym}
use Rattle.std.proofs.lemmas.Bool.{cond-false, cond-true}
use Rattle.std.specs.Prelude.{option_map, unwrap_or}
use Rattle.byte_io.specs.Shelf.{Bytes}
use Rattle.pdb_parts.specs.Beside.{first_in, first_line, first_told, is_of_search}
use Rattle.pdb_parts.specs.Joining.{ShownBoundInParts, whole_lines}
use Rattle.pdb_parts.specs.Stored.{first_with, skipped_shown, told_with}
use Rattle.pdb_parts.specs.declared.first.SkippedLine.{SkippedLine}

not_false : (b : Bool) → not b ≡ false → b ≡ true
not_false true is = refl
not_false false is = let no : true ≡ false = is in absurd cc

not_true : (b : Bool) → not b ≡ true → b ≡ false
not_true true is = let no : false ≡ true = is in absurd cc
not_true false is = refl

-- ---- lines, and more behind them

module _ (asked : ShownBoundInParts) where
  -- one that is found stays the first
  kept : (before : ℕ) (lines more : List (List ℕ)) (found : ℕ × List ℕ) → first_in asked before lines ≡ Some found → first_in asked before (lines ++ more) ≡ Some found
  kept before [] more found is = let no : None ≡ Some found = is in absurd cc
  kept before (line ∷ lines) more found is = go (is_of_search asked line) (λ found_behind. kept (before + 1) lines more found found_behind) is
    where
      go : (b : Bool) → (first_in asked (before + 1) lines ≡ Some found → first_in asked (before + 1) (lines ++ more) ≡ Some found)
          → cond b (first_in asked (before + 1) lines) (Some (before + 1, line)) ≡ Some found
          → cond b (first_in asked (before + 1) (lines ++ more)) (Some (before + 1, line)) ≡ Some found
      go true later is = later is
      go false later is = is

  -- and else it is that of those behind
  past : (before : ℕ) (lines more : List (List ℕ)) → first_in asked before lines ≡ None → first_in asked before (lines ++ more) ≡ first_in asked (before + length lines) more
  past before [] more is = let same : before ≡ before + 0 = omega arith in ap (λ k. first_in asked k more) same
  past before (line ∷ lines) more is = go (is_of_search asked line) (λ none_behind. past (before + 1) lines more none_behind) is
    where
      go : (b : Bool) → (first_in asked (before + 1) lines ≡ None → first_in asked (before + 1) (lines ++ more) ≡ first_in asked (before + 1 + length lines) more)
          → cond b (first_in asked (before + 1) lines) (Some (before + 1, line)) ≡ None
          → cond b (first_in asked (before + 1) (lines ++ more)) (Some (before + 1, line)) ≡ first_in asked (before + suc (length lines)) more
      go true later is =
          let same : before + 1 + length lines ≡ before + suc (length lines) = omega arith in
          later is ∙ ap (λ k. first_in asked k more) same
      go false later is = let no : Some (before + 1, line) ≡ None = is in absurd cc

  -- the first of lines and one more
  pub first_more : (lines : List (List ℕ)) (first : Option SkippedLine) (last : SkippedLine) (is_skip : Bool) → skipped_shown first ≡ first_in asked 0 lines
      → last.number ≡ length lines + 1 → not (is_of_search asked last.line.now) ≡ is_skip
      → skipped_shown (first_with first last is_skip) ≡ first_in asked 0 (lines ++ last.line.now ∷ [])
  first_more lines (Some found) last is_skip is number skips =
      sym (kept 0 lines (last.line.now ∷ []) (found.number, found.line.now) (sym is))
  first_more lines None last true is number skips =
      let same : last.number ≡ 0 + length lines + 1 = omega (arith, number) in
      ap (λ k. Some (k, last.line.now)) same
      ∙ sym (past 0 lines (last.line.now ∷ []) (sym is) ∙ cond-false (is_of_search asked last.line.now) _ _ (not_true (is_of_search asked last.line.now) skips))
  first_more lines None last false is number skips =
      sym (past 0 lines (last.line.now ∷ []) (sym is) ∙ cond-true (is_of_search asked last.line.now) _ _ (not_false (is_of_search asked last.line.now) skips))

  -- ---- files, and one more behind them

  -- what is told of the first in them
  pub told_more : (names texts : List Bytes) (name text : Bytes) → length names ≡ length texts
      → first_told asked (names ++ name ∷ []) (texts ++ text ∷ []) ≡ told_with (first_told asked names texts) name (first_in asked 0 (whole_lines text))
  told_more [] [] name text same = refl
  told_more [] (t ∷ texts) name text same = absurd (omega (arith, same))
  told_more (n ∷ names) [] name text same = absurd (omega (arith, same))
  told_more (n ∷ names) (t ∷ texts) name text same = go (first_in asked 0 (whole_lines t)) (told_more names texts name text (omega (arith, same)))
    where
      go : (first : Option (ℕ × List ℕ))
          → first_told asked (names ++ name ∷ []) (texts ++ text ∷ []) ≡ told_with (first_told asked names texts) name (first_in asked 0 (whole_lines text))
          → unwrap_or (option_map (λ found. first_line n found.0 found.1) first) (first_told asked (names ++ name ∷ []) (texts ++ text ∷ []))
          ≡ told_with (unwrap_or (option_map (λ found. first_line n found.0 found.1) first) (first_told asked names texts)) name (first_in asked 0 (whole_lines text))
      go None later = later
      go (Some found) later = refl
