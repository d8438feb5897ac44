use Rattle.std.proofs.Common.{◌≡◌, ◌<◌, ◌≤◌, List, [], length, map, sym, ◌∙◌, subst}
use Rattle.std.specs.List.{AllByRecursion}
use Rattle.std.proofs.lemmas.Bool.{both_ways}
use Rattle.std.proofs.lemmas.List.{length-map, take_all}
use Rattle.set_sum.specs.Reading.{NamesTwice}
use Rattle.set_sum.specs.OverPatterns.{tables_with}
use Rattle.set_sum.specs.declared.members.Member.{Member}
use Rattle.set_sum.proofs.ListLemmas.{all_at, all_more, first_with, mapped_at}
use Rattle.set_sum.proofs.set_texts.first_twice.Goals as goal

-- each table of a set's members is there, where one pattern is sought twice
pub twice-requires-clause-there : goal.twice-requires-clause-there
twice-requires-clause-there c =
    let sets = c.args.sets.now in
    let all : List (List Member) = map (λ set. set.items) sets in
    let size : length all ≡ length sets = length-map sets (λ set. set.items) in
    let at = mapped_at (λ set. set.items) sets c.loop-line.line c.index-sets-line.result [] c.loop-line-test.true c.index-sets-line.is
    ∙ sym c.deref.ensures.0 in
    subst (AllByRecursion (λ m. m.table < length c.args.patterns.now))
    at (all_at (AllByRecursion (λ m. m.table < length c.args.patterns.now)) all c.loop-line.line []
    (subst (λ n. c.loop-line.line < n) (sym size) c.loop-line-test.true) c.requires.there)

-- a set in which no pattern comes twice leaves the sets so far without such a set
pub loop-line-preserved : goal.loop-line-preserved
loop-line-preserved c =
    let sets = c.args.sets.now in
    let all : List (List Member) = map (λ set. set.items) sets in
    let size : length all ≡ length sets = length-map sets (λ set. set.items) in
    let at = mapped_at (λ set. set.items) sets c.loop-line.line c.index-sets-line.result [] c.loop-line-test.true c.index-sets-line.is
    ∙ sym c.deref.ensures.0 in
    all_more (λ set. ¬ NamesTwice (tables_with c.args.patterns.now) set) all c.loop-line.line []
    (subst (λ n. c.loop-line.line < n) (sym size) c.loop-line-test.true) c.loop-line.invariant (
    subst (λ set. ¬ NamesTwice (tables_with c.args.patterns.now) set) (sym at) (λ h. both_ways c.twice.result c.if-twice.false (c.twice.ensures.1 h)))

-- the set in which one pattern comes twice, once transposed, is the first such one
pub returns-then-twice : goal.returns-then-twice
returns-then-twice c =
    let sets = c.args.sets.now in
    let all : List (List Member) = map (λ set. set.items) sets in
    let size : length all ≡ length sets = length-map sets (λ set. set.items) in
    let at = mapped_at (λ set. set.items) sets c.loop-line.line c.index-sets-line.result [] c.loop-line-test.true c.index-sets-line.is
    ∙ sym c.deref.ensures.0 in
    first_with (NamesTwice (tables_with c.args.patterns.now)) all c.loop-line.line [] (subst (λ n. c.loop-line.line < n) (sym size) c.loop-line-test.true) (
    subst (NamesTwice (tables_with c.args.patterns.now)) (sym at) (c.twice.ensures.0 c.if-twice.true)) c.loop-line.invariant

-- where no set has one pattern twice, none of them all does
pub returns : goal.returns
returns c =
    let sets = c.args.sets.now in
    let all : List (List Member) = map (λ set. set.items) sets in
    let size : length all ≡ length sets = length-map sets (λ set. set.items) in
    subst (AllByRecursion (λ set. ¬ NamesTwice (tables_with c.args.patterns.now) set))
    (take_all c.loop-line.line all (subst (λ n. n ≤ c.loop-line.line) (sym size) c.loop-line-test.false)) c.loop-line.invariant
