-- Files of answer lines, and one more behind them.
use Rattle.std.proofs.Common.{◌≡◌, ◌∙◌, ◌+◌, ◌∷◌, ◌++◌, [], ℕ, List, Some, ap, append-nil, arith, flat_map, length-append, string_bytes, subst, sym}
use Rattle.std.proofs.lemmas.Grind.{flat_map-append}
use Rattle.std.proofs.lemmas.List.Elements.{All-append}
use Rattle.std.specs.List.{All}
use Rattle.byte_io.specs.Shelf.{Bytes}
use Rattle.pdb_run.specs.Writing.{digest_line}
use Rattle.pdb_parts.specs.Beside.{first_in}
use Rattle.pdb_parts.specs.Joining.{AreFirstMoves, RefutesNot, ShownBoundInParts, false_reply, whole_lines}
use Rattle.pdb_parts.specs.Steps.{MarksFiles, SaysFalse}
use Rattle.pdb_parts.specs.Stored.{AreCountsOf, AreMarksOf, told_with}
use Rattle.pdb_parts.specs.declared.beside.LineCounts.{LineCounts}
use Rattle.pdb_parts.specs.declared.noting.Marks.{Marks}
use Rattle.pdb_parts.proofs.FirstLemmas.{told_more}
use Rattle.pdb_parts.proofs.MarkLemmas.{counted_both, first_before, first_behind}

flat_more : {A : Type 0} (f : Bytes → List A) (texts : List Bytes) (text : Bytes) → flat_map f (texts ++ text ∷ []) ≡ flat_map f texts ++ f text
flat_more f texts text = flat_map-append f texts (text ∷ []) ∙ ap (λ more. flat_map f texts ++ more) (append-nil (f text))

module _ (asked : ShownBoundInParts) (names answers : List Bytes) (name text : Bytes) where
  abbrev lines : List (List ℕ)
  lines = flat_map whole_lines answers

  all : flat_map whole_lines (answers ++ text ∷ []) ≡ lines ++ whole_lines text
  all = flat_more whole_lines answers text

  -- the first moves that lines show stay the first
  pub still_false : {line : Bytes} → SaysFalse asked answers line → SaysFalse asked (answers ++ text ∷ []) line
  still_false says = record {
    moves = says.moves;
    first = subst (λ (l : List (List ℕ)). AreFirstMoves asked l (Some says.moves)) (sym all) (first_before asked lines (whole_lines text) says.moves says.first);
    is = says.is;
  }

  -- those of the last file are, where no file before shows any
  pub shows_false : {line : Bytes} (moves : List ℕ) → All (RefutesNot asked) lines → AreFirstMoves asked (whole_lines text) (Some moves)
      → line ≡ (false_reply asked moves).lines → SaysFalse asked (answers ++ text ∷ []) line
  shows_false moves none first is = record {
    moves = moves;
    first = subst (λ (l : List (List ℕ)). AreFirstMoves asked l (Some moves)) (sym all) (first_behind asked lines (whole_lines text) moves none first);
    is = is;
  }

  -- what they tell that show none
  pub marks_more_files : (marks next : Marks) (more : LineCounts) → MarksFiles asked names answers marks → All (RefutesNot asked) (whole_lines text)
      → AreMarksOf next.holds.items next.spent.items (lines ++ whole_lines text) asked → AreCountsOf more (whole_lines text) asked
      → next.counts.all ≡ marks.counts.all + more.all → next.counts.skipped ≡ marks.counts.skipped + more.skipped
      → string_bytes next.first ≡ told_with (string_bytes marks.first) name (first_in asked 0 (whole_lines text))
      → string_bytes next.digests ≡ string_bytes marks.digests ++ digest_line text
      → MarksFiles asked (names ++ name ∷ []) (answers ++ text ∷ []) next
  marks_more_files marks next more is none are counts all_lines skipped first digests = record {
    sizes = omega (arith, is.sizes, length-append names (name ∷ []), length-append answers (text ∷ []));
    none = subst (All (RefutesNot asked)) (sym all) (All-append (RefutesNot asked) lines (whole_lines text) is.none none);
    are = subst (λ (l : List (List ℕ)). AreMarksOf next.holds.items next.spent.items l asked) (sym all) are;
    counts = subst (λ (l : List (List ℕ)). AreCountsOf next.counts l asked) (sym all)
        (counted_both marks.counts more lines (whole_lines text) asked next.counts is.counts counts all_lines skipped);
    first = first ∙ ap (λ (told : Bytes). told_with told name (first_in asked 0 (whole_lines text))) is.first
        ∙ sym (told_more asked names answers name text is.sizes);
    digests = digests ∙ ap (λ (told : Bytes). told ++ digest_line text) is.digests ∙ sym (flat_more digest_line answers text);
  }
