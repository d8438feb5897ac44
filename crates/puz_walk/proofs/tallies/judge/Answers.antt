use Rattle.std.proofs.Common.{◌≡◌, ◌≢◌, ◌⊎◌, ℕ, ◌+◌, ◌<◌, length, length-set, slice_index, slice_set, inl, inr, sym, ◌∙◌, ap, subst, arith}
use Rattle.std.proofs.Common.{get_or-set_same, get_or-set_other}
use Rattle.std.proofs.lemmas.Bool.{cases_eq}
use Rattle.puz_walk.specs.Tallies.{IsLow, IsTold}
use Rattle.puz_walk.proofs.tallies.judge.Goals.{then-set-first+in-Some-judged, else-set-first}
use Rattle.puz_walk.proofs.tallies.judge.Goals as goal

-- what holds of the first set and of the sets so far holds of one set more
one_more : (P : ℕ → Type 0) (first set : ℕ) → ((k : ℕ) → (k ≡ first) ⊎ (k < set) → k ≢ set → P k) → P set → (k : ℕ) → (k ≡ first) ⊎ (k < set + 1) → P k
one_more P first set before here k asked = elim (cases_eq k set) [
  | inl e ↦ subst P (sym e) here
  | inr ne ↦ before k (elim asked [ inl is ↦ inl is | inr less ↦ inr (omega arith) ]) ne
]

-- where one more set is found low, or it is the first one asked, all sets so far are low and their owners' entries listed
pub loop-set-preserved : goal.loop-set-preserved
loop-set-preserved c =
    let v = c.args.position.now.bundle in
    let next = c.args.position.now.board in
    let loop = c.loop-set in
    let was = loop.invariant in
    let set = loop.set in
    let first = c.args.tally.now.first in
    elim c.if-set-first.branch [
      | then-set-first+in-Some-judged w ↦
          let entry = w.in-Some-judged.entry in
          let number = w.from-then-set-first.result in
          let number_is : number ≡ set = w.from-then-set-first.ensures in
          let room = was.room in
          let most : set < 16 = (let more = c.loop-set-test.true in let count = c.sets-sets.ensures.sets in
          let few = c.sets-sets.ensures.bundle.few_sets in omega arith) in
          let here : slice_index (slice_set loop.told number entry) set ≡ entry =
          ap (λ k. slice_index (slice_set loop.told k entry) set) number_is ∙ get_or-set_same loop.told set entry 0 (omega arith) in
          let others : (k : ℕ) → k ≢ set → slice_index (slice_set loop.told number entry) k ≡ slice_index loop.told k =
          (λ k ne. get_or-set_other loop.told number k entry 0 (λ e. ne (e ∙ number_is))) in
          record {
            room = ap length w.told-is ∙ length-set _ _ _ ∙ room;
            told = one_more (λ k. IsTold v next c.args.tile k (slice_index c.if-set-first.told k)) first set
                (λ k asked ne. subst (IsTold v next c.args.tile k) (sym (ap (λ xs. slice_index xs k) w.told-is ∙ others k ne)) (was.told k asked))
                (subst (IsTold v next c.args.tile set) (sym (ap (λ xs. slice_index xs set) w.told-is ∙ here)) w.in-Some-judged.ensures.told);
            low = one_more (IsLow v next c.args.limit) first set (λ k asked ne. was.low k asked) w.in-Some-judged.ensures.low;
          }
      | else-set-first w ↦
          let same : set ≡ first = w.if-set-first.false in
          record {
            room = ap length w.told-is ∙ was.room;
            told = one_more (λ k. IsTold v next c.args.tile k (slice_index c.if-set-first.told k)) first set
                (λ k asked ne. subst (IsTold v next c.args.tile k) (sym (ap (λ xs. slice_index xs k) w.told-is)) (was.told k asked))
                (subst (IsTold v next c.args.tile set) (sym (ap (λ xs. slice_index xs set) w.told-is)) (was.told set (inl same)));
            low = one_more (IsLow v next c.args.limit) first set (λ k asked ne. was.low k asked) (was.low set (inl same));
          }
    ]
