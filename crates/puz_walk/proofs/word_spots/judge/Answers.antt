use Rattle.std.proofs.Common.{◌≡◌, ◌≢◌, ℕ, ◌<◌, ltb, length, slice_index, slice_set, inl, inr, sym, ◌∙◌, ap, subst, arith}
use Rattle.std.proofs.Common.{get_or-set_same, get_or-set_other, length-set}
use Rattle.std.proofs.lemmas.Bool.{and_cases, cases_eq, ltb-true, ltb-false}
use Rattle.tab_rule.specs.declared.tables.Count.TheVariants.{Finite}
use Rattle.set_sum.specs.Bundles.{BundleSays}
use Rattle.puz_walk.proofs.JudgeLemmas.{both_are, sum_once}
use Rattle.puz_walk.proofs.StartLemmas.{sums_from}
use Rattle.puz_walk.proofs.word_spots.judge.Goals as goal

-- with one more set's sum put in, the sums so far are those of the next board, and they are below the limit, or one of them isn't
pub loop-set-preserved : goal.loop-set-preserved
loop-set-preserved c =
    let v = c.args.bundle.now in
    let set = c.loop-set.set in
    let sums = c.loop-set.sums in
    let sum = c.sum_after-sum.result in
    let room = c.loop-set.invariant.room in
    let place = c.from.ensures in
    let few = c.sets-sets.ensures.bundle.few_sets in
    let low : c.from.result < length sums = (let more = c.loop-set-test.true in let count = c.requires.sets in omega arith) in
    let here : slice_index (slice_set sums c.from.result sum) set ≡ sum =
    ap (slice_index (slice_set sums c.from.result sum)) (sym place) ∙ get_or-set_same sums c.from.result sum 0 low in
    let other : (k : ℕ) → k ≢ set → slice_index (slice_set sums c.from.result sum) k ≡ slice_index sums k =
    λ k ne. get_or-set_other sums c.from.result k sum 0 (λ e. ne (e ∙ place)) in
    record {
      room = length-set _ _ _ ∙ room;
      says = λ b next from to step kept k l. elim (cases_eq k set) [
        | inl e ↦ subst (λ i. BundleSays v i next (Finite (slice_index (slice_set sums c.from.result sum) i))) (sym e)
            (subst (λ d. BundleSays v set next (Finite d)) (sym here) (c.sum_after-sum.ensures b next from to step kept))
        | inr ne ↦ subst (λ d. BundleSays v k next (Finite d)) (sym (other k ne)) (c.loop-set.invariant.says b next from to step kept k (omega arith))
      ];
      below = λ all k l.
          let both = both_are c.loop-set.is_below (ltb sum c.args.limit) all in
          let under = ltb-true sum c.args.limit both.1 in
          elim (cases_eq k set) [
            | inl e ↦ (let same : slice_index (slice_set sums c.from.result sum) k ≡ sum = ap (slice_index (slice_set sums c.from.result sum)) e ∙ here in
                omega arith)
            | inr ne ↦ (let same = other k ne in let low = c.loop-set.invariant.below both.0 k (omega arith) in omega arith)
          ];
      beyond = λ some. elim (and_cases c.loop-set.is_below (ltb sum c.args.limit) some) [
        | inl earlier ↦
            let at = c.loop-set.invariant.beyond earlier in
            let is = other at.0 (λ e. let l = at.1 in omega arith) in
            (at.0, (let l = at.1 in omega arith), let high = at.2 in omega arith)
        | inr now ↦ let high = ltb-false sum c.args.limit now in (set, (omega arith), (omega arith))
      ];
    }

-- where each set is below the limit, the sums are those of the next board, all below the limit
pub returns-then-is_below-clause-some : goal.returns-then-is_below-clause-some
returns-then-is_below-clause-some c b next from to step kept =
    let v = c.args.bundle.now in
    let end = c.loop-set-test.false in
    let count = c.requires.sets in
    let says : (k : ℕ) → k < length v.sets → BundleSays v k next (Finite (slice_index c.loop-set.sums k)) =
    λ k low. c.loop-set.invariant.says b next from to step kept k (omega arith) in (
      sums_from v next c.loop-set.sums c.loop-set.invariant.room says,
      λ set d told.
          let there : set < length v.sets = told.there in
          let same = sum_once v set next d (slice_index c.loop-set.sums set) told (says set there) in
          let low = c.loop-set.invariant.below c.if-is_below.true set (omega arith) in
          omega arith,
    )

-- where some set isn't, the next board goes beyond the limit
pub returns-else-is_below-clause-none : goal.returns-else-is_below-clause-none
returns-else-is_below-clause-none c b next from to step kept =
    let at = c.loop-set.invariant.beyond c.if-is_below.false in
    (at.0, Finite (slice_index c.loop-set.sums at.0), c.loop-set.invariant.says b next from to step kept at.0 at.1, at.2)
