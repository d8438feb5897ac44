use Rattle.std.proofs.Common.{◌≡◌, ◌≤◌, inr, length, map, sym, subst, arith}
use Rattle.std.specs.Prelude.{Any}
use Rattle.set_sum.specs.Reading.{IsFirstWith}
use Rattle.set_sum.specs.OverPatterns.{AreSetsAmong}
use Rattle.set_sum.proofs.LinesReadLemmas.{all_kept, first-within, missing_line}
use Rattle.set_sum.proofs.set_texts.sets_of.Goals as goal

-- the number of the first line with a missing table is small enough for a byte
pub overflow_cast-result : goal.overflow_cast-result
overflow_cast-result c =
    let lines = c.in-Ok.lines in
    let ok = c.in-Ok.ensures.ok in
    let low = first-within _ ok.0 c.in-Some.line (missing_line c.args.tables ok.0 lines.count lines.missing
    (map (λ set. set.items) lines.sets.items) c.in-Some.line ok.2 c.in-Some.is) in
    let counted : lines.count ≡ length ok.0 = ok.2.counted in
    let few = c.if-lines-gt-MOST_SETS.false in
    omega arith

-- a first bad line is the fault S1, whichever tables of one side there are
pub returns-in-Err-clause-err : goal.returns-in-Err-clause-err
returns-in-Err-clause-err c tables alike count = (alike, c.in-Err.ensures.err)

-- too many lines are the fault S5, whichever tables of one side there are
pub returns-then-lines-gt-MOST_SETS-clause-err : goal.returns-then-lines-gt-MOST_SETS-clause-err
returns-then-lines-gt-MOST_SETS-clause-err c tables alike count =
    let lines = c.in-Ok.lines in
    let ok = c.in-Ok.ensures.ok in
    let counted : lines.count ≡ length ok.0 = ok.2.counted in
    let many = c.if-lines-gt-MOST_SETS.true in
    inr (alike, ok.0, ok.1, omega arith)

-- the first line with a missing table is the fault S2, whichever so many tables of one side there are
pub returns-in-Some-clause-err : goal.returns-in-Some-clause-err
returns-in-Some-clause-err c tables alike count =
    let lines = c.in-Ok.lines in
    let ok = c.in-Ok.ensures.ok in
    let counted : lines.count ≡ length ok.0 = ok.2.counted in
    let few = c.if-lines-gt-MOST_SETS.false in (
      alike,
      ok.0,
      record { lines = ok.1; few = omega arith },
      subst (λ k. IsFirstWith (λ set. Any (λ m. k ≤ m.table) set) ok.0 c.in-Some.line) (sym count)
          (missing_line c.args.tables ok.0 lines.count lines.missing (map (λ set. set.items) lines.sets.items) c.in-Some.line ok.2 c.in-Some.is),
    )

-- the sets that are kept are those of the text, all of whose tables are there
pub returns-clause-ok : goal.returns-clause-ok
returns-clause-ok c =
    let lines = c.in-Ok.lines in
    let ok = c.in-Ok.ensures.ok in
    let kept = all_kept c.args.tables ok.0 lines.count lines.missing
    (map (λ set. set.items) lines.sets.items) ok.2 c.in_default.is c.if-lines-gt-MOST_SETS.false in
    let counted : lines.count ≡ length ok.0 = ok.2.counted in
    let few = c.if-lines-gt-MOST_SETS.false in
    subst (AreSetsAmong c.args.tables c.args.text.now) (sym kept.0) (record { lines = ok.1; few = omega arith }, kept.1)
