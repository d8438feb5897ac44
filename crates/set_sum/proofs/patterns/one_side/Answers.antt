use Rattle.std.proofs.Common.{◌≡◌, ◌≢◌, ℕ, ◌<◌, ◌≤◌, false, true, eqb, not, length, get_or, take, inl, inr, sym, ◌∙◌, ap, subst, arith}
use Rattle.std.specs.List.{AllByRecursion}
use Rattle.std.proofs.lemmas.Bool.{both_ways, cases_Bool, eq-eqb, eqb-true, eqb-false}
use Rattle.std.proofs.lemmas.List.{take_all}
use Rattle.set_sum.specs.Bundles.{most_tables}
use Rattle.set_sum.specs.Parts.{part_pattern}
use Rattle.set_sum.specs.Reading.{IsFirstWith, first_side}
use Rattle.set_sum.proofs.ListLemmas.{all_more, all_weaker, first_with, read_at}
use Rattle.set_sum.proofs.PatternLemmas.{all_mapped, counted, first_mapped, first_side-have}
use Rattle.set_sum.proofs.patterns.one_side.Goals as goal
use Rattle.set_sum.proofs.patterns.one_side.Goals.{then-is_empty-via-then-is_empty, then-is_empty-via-else-is_empty+then-patterns-gt-MOST_TABLES}

-- no tables, or more than a bundle may have, are the fault S5 with any text
pub returns-then-is_empty-clause-err : goal.returns-then-is_empty-clause-err
returns-then-is_empty-clause-err c text tables of_tables = elim c.then-is_empty.branch [
  | then-is_empty-via-then-is_empty w ↦
      inl (inl (counted tables c.args.patterns.now of_tables ∙ eqb-true (length c.args.patterns.now) 0 (sym c.is_empty.ensures ∙ w.if-is_empty.true)))
  | then-is_empty-via-else-is_empty+then-patterns-gt-MOST_TABLES w ↦
      inl (inr (subst (λ n. most_tables < n) (sym (counted tables c.args.patterns.now of_tables)) w.if-patterns-gt-MOST_TABLES.true))
]

differ : (a b : ℕ) (r : _) → r ≡ not (eqb a b) → r ≡ true → a ≢ b
differ a b r is e same = both_ways r (is ∙ ap not (eq-eqb a b same)) e

agree : (a b : ℕ) (r : _) → r ≡ not (eqb a b) → r ≡ false → a ≡ b
agree a b r is e = elim (cases_Bool (eqb a b)) [ inl t ↦ eqb-true a b t | inr f ↦ absurd (both_ways r e (is ∙ ap not f)) ]

some : (n : ℕ) (r : _) → r ≡ eqb n 0 → r ≡ false → 0 < n
some n r is e = let ne = eqb-false n 0 (sym is ∙ e) in omega arith

-- a pattern of the side of the first one leaves the patterns so far of one side
pub loop-i-preserved : goal.loop-i-preserved
loop-i-preserved c =
    let patterns = c.args.patterns.now in
    let i = c.loop-i.i in
    let p = c.index-patterns-i.result in
    let at : get_or patterns i p ≡ p = read_at patterns i p p c.loop-i-test.true c.index-patterns-i.is in
    let side : p.side ≡ c.side-side.result = sym c.side.ensures.side ∙ agree c.side.result c.side-side.result c.ne.result c.ne.ensures c.if-ne.false in
    all_more (λ q. q.side ≡ c.side-side.result) patterns i p c.loop-i-test.true c.loop-i.invariant
    (subst (λ q. q.side ≡ c.side-side.result) (sym at) side)

-- the first pattern of another side is the fault S4 with any text
pub returns-then-ne-clause-err : goal.returns-then-ne-clause-err
returns-then-ne-clause-err c text tables of_tables =
    let patterns = c.args.patterns.now in
    let i = c.loop-i.i in
    let p = c.index-patterns-i.result in
    let count = counted tables patterns of_tables in
    let n = first_side tables in
    let any : 0 < length tables = subst (λ k. 0 < k) (sym count) (some (length patterns) c.is_empty.result c.is_empty.ensures c.if-is_empty.false) in
    let first : c.side-side.result ≡ n = c.side-side.ensures.side
    ∙ first_side-have tables patterns of_tables c.index-patterns-0.result any c.index-patterns-0.is in
    let at : get_or patterns i p ≡ p = read_at patterns i p p c.loop-i-test.true c.index-patterns-i.is in
    let other : p.side ≢ n =
    λ same. differ c.side.result c.side-side.result c.ne.result c.ne.ensures c.if-ne.true (c.side.ensures.side ∙ same ∙ sym first) in
    let found : IsFirstWith (λ q. q.side ≢ n) patterns i =
    first_with (λ q. q.side ≢ n) patterns i p c.loop-i-test.true (subst (λ q. q.side ≢ n) (sym at) other) (
    all_weaker (λ q. q.side ≡ c.side-side.result) (λ q. ¬ (q.side ≢ n)) (λ q same ne. ne (same ∙ first)) (take i patterns) c.loop-i.invariant) in (
      record { some = any; few = subst (λ k. k ≤ most_tables) (sym count) c.if-patterns-gt-MOST_TABLES.false },
      first_mapped part_pattern (λ q. q.side ≢ n) tables i (subst (λ ps. IsFirstWith (λ q. q.side ≢ n) ps i) (sym of_tables) found),
    )

-- where no pattern has another side, all tables are of the first one's side
pub returns-clause-ok : goal.returns-clause-ok
returns-clause-ok c tables of_tables =
    let patterns = c.args.patterns.now in
    let count = counted tables patterns of_tables in
    let n = first_side tables in
    let any : 0 < length tables = subst (λ k. 0 < k) (sym count) (some (length patterns) c.is_empty.result c.is_empty.ensures c.if-is_empty.false) in
    let first : c.side-side.result ≡ n = c.side-side.ensures.side
    ∙ first_side-have tables patterns of_tables c.index-patterns-0.result any c.index-patterns-0.is in
    let all = subst (AllByRecursion (λ q. q.side ≡ c.side-side.result)) (take_all c.loop-i.i patterns c.loop-i-test.false) c.loop-i.invariant in
    let same = all_weaker (λ q. q.side ≡ c.side-side.result) (λ q. q.side ≡ n) (λ q is. is ∙ first) patterns all in (
      first,
      record {
        count = record { some = any; few = subst (λ k. k ≤ most_tables) (sym count) c.if-patterns-gt-MOST_TABLES.false };
        one_side = all_mapped part_pattern (λ q. q.side ≡ n) tables (subst (AllByRecursion (λ q. q.side ≡ n)) (sym of_tables) same);
      },
    )
