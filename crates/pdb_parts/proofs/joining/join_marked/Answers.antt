use Rattle.std.proofs.Common.{◌≡◌, ◌∙◌, ◌++◌, Bool, List, None, ap, false, filter, flat_map, get_or, not, sym, true, ℕ}
use Rattle.std.proofs.lemmas.Bool.{cond-false, cond-true}
use Rattle.std.specs.List.{list_all, range_with_len}
use Rattle.byte_io.specs.Shelf.{Bytes}
use Rattle.claim_text.specs.Lines.{joined_line}
use Rattle.pdb_run.specs.Commands.{Reply}
use Rattle.pdb_run.specs.Writing.{reply_text}
use Rattle.pdb_parts.specs.Beside.{counts_text}
use Rattle.pdb_parts.specs.Joining.{ShownBoundInParts, are_told, bound_reply, joined_reply, open_claim, open_reply, whole_lines}
use Rattle.pdb_parts.specs.Stored.{AreMarksOf, shown}
use Rattle.pdb_parts.specs.declared.noting.Marks.{Marks}
use Rattle.pdb_parts.proofs.MarkLemmas.{all_told, ended_open, left_open}
use Rattle.pdb_parts.proofs.joining.join_marked.Goals as goal

module _ (answers : List Bytes) (asked : ShownBoundInParts) (marks : Marks) (are : AreMarksOf marks.holds.items marks.spent.items (flat_map whole_lines answers) asked) where
  -- the reply where each part has a mark, and where not
  all_joined : list_all (λ mark. mark) marks.holds.items ≡ true → joined_reply answers asked None ≡ bound_reply answers asked
  all_joined all =
      cond-true (are_told (flat_map whole_lines answers) asked) (bound_reply answers asked) (open_reply answers asked)
      (sym (all_told (flat_map whole_lines answers) asked marks.holds.items marks.spent.items are) ∙ all)

  some_open : list_all (λ mark. mark) marks.holds.items ≡ false → joined_reply answers asked None ≡ open_reply answers asked
  some_open all =
      cond-false (are_told (flat_map whole_lines answers) asked) (bound_reply answers asked) (open_reply answers asked)
      (sym (all_told (flat_map whole_lines answers) asked marks.holds.items marks.spent.items are) ∙ all)

-- where each part has a mark, the bound is said
pub returns-then-are_marked : goal.returns-then-are_marked
returns-then-are_marked c = λ names answers is.
    let asked = shown c.args.asked.now in
    let marks = c.args.marks in
    let all = ap (list_all (λ mark. mark)) (sym c.as_slice-holds.ensures.value) ∙ sym c.are_marked.ensures ∙ c.if-are_marked.true in
    let joined = all_joined answers asked marks is.are all in
    let spent = rw (c.as_slice-holds.ensures.value, c.as_slice.ensures.value) at c.count_spent-spent.ensures in
    let line = joined_line asked.goal asked.bound asked.count asked.board in
    record {
      moves = None;
      first = is.none;
      text = c.in_ok-text.ensures ∙ ap (λ (digests : List ℕ). digests ++ line) is.digests ∙ sym (ap reply_text joined);
      is_yes = sym (ap (λ (r : Reply). r.is_yes) joined);
      beside = c.in_ok-beside.ensures
          ∙ (λ i. counts_text (is.counts.skipped i) (is.counts.all i) ((c.as_str.ensures.value ∙ is.first) i)
          ((spent ∙ ended_open (flat_map whole_lines answers) asked marks.holds.items marks.spent.items is.are) i) asked.count);
    }

-- where some part has none, the open claims are
pub returns : goal.returns
returns c = λ names answers is.
    let asked = shown c.args.asked.now in
    let marks = c.args.marks in
    let some = ap (list_all (λ mark. mark)) (sym c.as_slice-holds.ensures.value) ∙ sym c.are_marked.ensures ∙ c.if-are_marked.false in
    let joined = some_open answers asked marks is.are some in
    let spent = rw (c.as_slice-holds.ensures.value, c.as_slice.ensures.value) at c.count_spent-spent.ensures in
    let text : List Bool → List ℕ = λ holds. flat_map (open_claim asked) (filter (λ i. not (get_or holds i false)) (range_with_len 0 asked.count)) in
    record {
      moves = None;
      first = is.none;
      text = c.in_ok-text-2.ensures ∙ ap text c.as_slice-holds.ensures.value
          ∙ left_open (flat_map whole_lines answers) asked marks.holds.items marks.spent.items is.are ∙ sym (ap reply_text joined);
      is_yes = sym (ap (λ (r : Reply). r.is_yes) joined);
      beside = c.in_ok-beside.ensures
          ∙ (λ i. counts_text (is.counts.skipped i) (is.counts.all i) ((c.as_str.ensures.value ∙ is.first) i)
          ((spent ∙ ended_open (flat_map whole_lines answers) asked marks.holds.items marks.spent.items is.are) i) asked.count);
    }
