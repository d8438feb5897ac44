use Rattle.std.proofs.Common.{◌≡◌, ℕ, ◌<◌, ◌≤◌, List, length, map, refl, sym, ap, subst, arith}
use Rattle.std.specs.Prelude.{Err, IfErr, IsErrAnd, Ok, Result}
use Rattle.std.specs.List.{AllByRecursion}
use Rattle.arrayvec.specs.ArrayVec.{ArrayVec}
use Rattle.pat_place.specs.Patterns.{ShownPattern}
use Rattle.set_sum.specs.Bundles.{most_sets, most_tables}
use Rattle.set_sum.specs.Parts.{part_pattern}
use Rattle.set_sum.specs.Reading.{IsFirstWith, NamesNoTable, NamesOverlap, NamesTwice}
use Rattle.set_sum.specs.OverPatterns.{IsFaultOver, tables_with}
use Rattle.set_sum.specs.declared.members.Member.{Member}
use Rattle.set_sum.specs.declared.parts.Part.{Part}
use Rattle.set_sum.proofs.LinesReadLemmas.{all_there, first-within}
use Rattle.set_sum.proofs.ListLemmas.{all_weaker}
use Rattle.set_sum.proofs.PatternLemmas.{counted, first_over, first_twice, have_with, none_over, none_twice}
use Rattle.set_sum.proofs.set_texts.read_over.Goals as goal

there : (tables : List Part) (patterns : List ShownPattern) → map part_pattern tables ≡ patterns → (sets : List (List Member))
    → AllByRecursion (AllByRecursion (λ m. m.table < length patterns)) sets → AllByRecursion (λ set. ¬ NamesNoTable tables set) sets
there tables patterns of_tables sets all =
    all_weaker (AllByRecursion (λ m. m.table < length tables)) (λ set. ¬ NamesNoTable tables set) (all_there (length tables)) sets
    (subst (λ k. AllByRecursion (AllByRecursion (λ m. m.table < k)) sets) (sym (counted tables patterns of_tables)) all)

-- where a result is this error, of which something holds, that holds of its error
err_is : {A X : Type 0} (P : X → Type 0) (x : X) (o : Result A X) → IsErrAnd o (λ y. y ≡ x) → P x → IfErr o P
err_is P x (Err y) is holds = subst P (sym is) holds
err_is P x (Ok a) is holds = tt

-- some tables with the patterns are of one side, where one pattern is sought twice
pub first_twice-requires-clause-side : goal.first_twice-requires-clause-side
first_twice-requires-clause-side c = (c.in_ok-_side.ensures.ok (tables_with c.args.patterns.now) (have_with c.args.patterns.now)).1

-- each table of the sets is there, where one pattern is sought twice
pub first_twice-requires-clause-there : goal.first_twice-requires-clause-there
first_twice-requires-clause-there c =
    subst (λ sets. AllByRecursion (AllByRecursion (λ m. m.table < length c.args.patterns.now)) (map (λ set. set.items) sets))
    (sym c.deref.ensures.0) c.in_ok-sets.ensures.ok.1

-- some tables with the patterns are of one side, where shared tiles are sought
pub first_overlap-requires-clause-side : goal.first_overlap-requires-clause-side
first_overlap-requires-clause-side c = (c.in_ok-_side.ensures.ok (tables_with c.args.patterns.now) (have_with c.args.patterns.now)).1

-- each table of the sets is there, where shared tiles are sought
pub first_overlap-requires-clause-there : goal.first_overlap-requires-clause-there
first_overlap-requires-clause-there c =
    subst (λ sets. AllByRecursion (AllByRecursion (λ m. m.table < length c.args.patterns.now)) (map (λ set. set.items) sets))
    (sym c.deref-2.ensures.0) c.in_ok-sets.ensures.ok.1

-- there are no more patterns than a bundle may have tables
pub sets_of-requires : goal.sets_of-requires
sets_of-requires c =
    let patterns = c.args.patterns.now in
    let alike = (c.in_ok-_side.ensures.ok (tables_with patterns) (have_with patterns)).1 in
    subst (λ k. k ≤ most_tables) (counted (tables_with patterns) patterns (have_with patterns)) alike.count.few

-- the number of a line of the sets is small enough for a byte
small : (sets : List (List Member)) (kept : List (ArrayVec Member)) → map (λ set. set.items) kept ≡ sets → length sets ≤ most_sets
    → (Has : List Member → Type 0) (line : ℕ) → IsFirstWith Has (map (λ set. set.items) kept) line → line ≤ 255
small sets kept same few Has line first =
    let low : line < length sets = subst (λ s. line < length s) same (first-within Has (map (λ set. set.items) kept) line first) in omega arith

-- the number of the line with one pattern twice is small enough for a byte
pub overflow_cast-result : goal.overflow_cast-result
overflow_cast-result c =
    let line = small (map (λ set. set.items) c.in_ok-sets.sets.items) c.deref.result.now (ap (map (λ set. set.items)) c.deref.ensures.0)
    c.in_ok-sets.ensures.ok.0.few (NamesTwice (tables_with c.args.patterns.now)) c.in-Some.line c.in-Some.ensures in
    omega arith

-- the number of the line with a shared tile is small enough for a byte
pub overflow_cast-result-in-Some-first_overlap : goal.overflow_cast-result-in-Some-first_overlap
overflow_cast-result-in-Some-first_overlap c =
    let line = small (map (λ set. set.items) c.in_ok-sets.sets.items) c.deref-2.result.now (ap (map (λ set. set.items)) c.deref-2.ensures.0)
    c.in_ok-sets.ensures.ok.0.few (NamesOverlap (tables_with c.args.patterns.now)) c.in-Some-first_overlap.line c.in-Some-first_overlap.ensures in
    omega arith

-- the fault of the lines is that of the text over any tables with the patterns
pub returns-in_err-sets-clause-err : goal.returns-in_err-sets-clause-err
returns-in_err-sets-clause-err c =
    err_is (λ fault. IsFaultOver fault c.args.patterns.now c.args.text.now) c.in_err-sets.field-0.0 c.from_residual-in_err-sets.result
    c.from_residual-in_err-sets.ensures.1
    (λ tables of_tables. c.in_err-sets.ensures.err tables (c.in_ok-_side.ensures.ok tables of_tables).1 (counted tables c.args.patterns.now of_tables))

-- the first set with one pattern twice is the fault S6, as no fault comes before it
pub returns-in-Some-clause-err : goal.returns-in-Some-clause-err
returns-in-Some-clause-err c tables of_tables =
    let patterns = c.args.patterns.now in
    let sets : List (List Member) = map (λ set. set.items) c.in_ok-sets.sets.items in
    let are = c.in_ok-sets.ensures.ok in
    let same : map (λ set. set.items) c.deref.result.now ≡ sets = ap (map (λ set. set.items)) c.deref.ensures.0 in (
      (c.in_ok-_side.ensures.ok tables of_tables).1,
      sets,
      are.0,
      there tables patterns of_tables sets are.1,
      first_twice tables patterns of_tables sets c.in-Some.line
          (subst (λ s. IsFirstWith (NamesTwice (tables_with patterns)) s c.in-Some.line) same c.in-Some.ensures),
    )

-- the first set with a shared tile is the fault S3, as no fault comes before it
pub returns-in-Some-first_overlap-clause-err : goal.returns-in-Some-first_overlap-clause-err
returns-in-Some-first_overlap-clause-err c tables of_tables =
    let patterns = c.args.patterns.now in
    let sets : List (List Member) = map (λ set. set.items) c.in_ok-sets.sets.items in
    let are = c.in_ok-sets.ensures.ok in
    let same : map (λ set. set.items) c.deref.result.now ≡ sets = ap (map (λ set. set.items)) c.deref.ensures.0 in
    let also : map (λ set. set.items) c.deref-2.result.now ≡ sets = ap (map (λ set. set.items)) c.deref-2.ensures.0 in (
      (c.in_ok-_side.ensures.ok tables of_tables).1,
      sets,
      are.0,
      there tables patterns of_tables sets are.1,
      none_twice tables patterns of_tables sets
          (subst (AllByRecursion (λ set. ¬ NamesTwice (tables_with patterns) set)) same c.in_default.ensures),
      first_over tables patterns of_tables sets c.in-Some-first_overlap.line
          (subst (λ s. IsFirstWith (NamesOverlap (tables_with patterns)) s c.in-Some-first_overlap.line) also c.in-Some-first_overlap.ensures),
    )

-- the sets make a bundle with any tables that have the patterns
pub returns-clause-ok : goal.returns-clause-ok
returns-clause-ok c tables of_tables =
    let patterns = c.args.patterns.now in
    let sets : List (List Member) = map (λ set. set.items) c.in_ok-sets.sets.items in
    let are = c.in_ok-sets.ensures.ok in
    let same : map (λ set. set.items) c.deref.result.now ≡ sets = ap (map (λ set. set.items)) c.deref.ensures.0 in
    let also : map (λ set. set.items) c.deref-2.result.now ≡ sets = ap (map (λ set. set.items)) c.deref-2.ensures.0 in
    record {
      alike = (c.in_ok-_side.ensures.ok tables of_tables).1;
      side = refl;
      shown = refl;
      are_sets = are.0;
      there = there tables patterns of_tables sets are.1;
      apart = none_twice tables patterns of_tables sets
          (subst (AllByRecursion (λ set. ¬ NamesTwice (tables_with patterns) set)) same c.in_default.ensures);
      disjoint = none_over tables patterns of_tables sets
          (subst (AllByRecursion (λ set. ¬ NamesOverlap (tables_with patterns) set)) also c.in_default-first_overlap.ensures);
    }
