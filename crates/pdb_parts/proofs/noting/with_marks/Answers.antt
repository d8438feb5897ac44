use Rattle.std.proofs.Common.{◌≡◌, ◌∙◌, ◌++◌, ℕ, Bool, List, ap, append-nil, arith, drop, flat_map, length, subst, sym, string_bytes, take}
use Rattle.std.proofs.lemmas.List.{drop_all, take_all}
use Rattle.pdb_parts.specs.Joining.{whole_lines}
use Rattle.pdb_parts.specs.Stored.{AreMarksOf, shown, told_with}
use Rattle.pdb_parts.proofs.NotingLemmas.{marks_more_files, shows_false}
use Rattle.pdb_parts.proofs.noting.with_marks.Goals as goal

-- what was written back to a vector is what stands in its slice
written : (items slice new : List Bool) (len : ℕ) → slice ≡ items → length slice ≡ len → length new ≡ length slice
    → take len (new ++ drop (length new) items) ≡ new
written items slice new len value size same =
    let whole = ap length value in
    ap (λ (t : List Bool). take len (new ++ t)) (drop_all (length new) items (omega (arith, whole, same))) ∙ ap (take len) (append-nil new) ∙
    take_all len new (omega (arith, size, same))

-- moves that the lines of the file show are a solution of fewer moves
pub false_text-requires : goal.false_text-requires
false_text-requires c = let refutes = c.in-Err.ensures.first.5 in (refutes.count, refutes.solves, refutes.fewer)

-- they are said
pub returns-in-Err : goal.returns-in-Err
returns-in-Err c = λ names answers is.
    shows_false (shown c.args.asked.now) names answers c.args.name.now c.args.text.now c.in-Err.moves.now is.none c.in-Err.ensures.first
    c.in_ok-line-in-Err.ensures

-- where they show none, what they tell is noted
pub returns : goal.returns
returns c = λ names answers is.
    let asked = shown c.args.asked.now in
    let marks = c.args.marks in
    let text = c.args.text.now in
    let lines = flat_map whole_lines answers in
    let first = c.as_mut_slice.ensures in
    let second = c.as_mut_slice-2.ensures in
    let before = subst (λ (t : List Bool × List Bool). AreMarksOf t.0 t.1 lines asked) (λ k. (sym first.value k, sym second.value k)) is.are in
    let holds = written marks.holds.items c.as_mut_slice.result.now c.mark_text.new.holds marks.holds.len first.value first.len
    c.mark_text.ensures.holds_size in
    let spent = written marks.spent.items c.as_mut_slice-2.result.now c.mark_text.new.spent marks.spent.len second.value second.len
    c.mark_text.ensures.spent_size in
    let are = subst (λ (t : List Bool × List Bool). AreMarksOf t.0 t.1 (lines ++ whole_lines text) asked) (λ k. (sym holds k, sym spent k))
    (c.in-Ok.ensures.marks lines before) in
    marks_more_files asked names answers c.args.name.now text marks _ c.in-Ok.lines.counts is c.in-Ok.ensures.none are c.in-Ok.ensures.counts
    c.in-Some.ensures.all c.in-Some.ensures.skipped
    (c.in_ok-told_with.ensures ∙ ap (told_with (string_bytes marks.first) c.args.name.now) c.in-Ok.ensures.skipped) c.in_ok-with_digest.ensures
