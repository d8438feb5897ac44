use Rattle.std.proofs.lemmas.List.{length-replicate}
use Rattle.std.proofs.Common.{◌≡◌, ℕ, ◌+◌, ◌<◌, length, length-set, eqb, get_or, set, inl, inr, sym, ◌∙◌, subst, arith, eq-eqb, get_or-set_same}
use Rattle.std.proofs.Common.{get_or-set_other}
use Rattle.std.specs.Prelude.{IsTrue}
use Rattle.std.proofs.lemmas.Bool.{cases_eq, eqb-true}
use Rattle.tab_columns.specs.Columns.{IsKindByMask}
use Rattle.tab_columns.proofs.OneEntryLemmas.{kind_same}
use Rattle.tab_columns.proofs.columns.kinds_of.Goals as goal

-- before the first slot, the column of kinds has its length and says nothing yet
pub loop-i-init : goal.loop-i-init
loop-i-init c = record { len = length-replicate {A = ℕ} 2048 0; each = λ k l. absurd (omega arith) }

-- with the kind of one slot put in, the column is right for one slot more
pub loop-i-preserved : goal.loop-i-preserved
loop-i-preserved c = record { len = length-set c.loop-i.kinds c.loop-i.i c.kind_of.result ∙ c.loop-i.invariant.len; each = each }
  where
    here : IsKindByMask (get_or c.args.masks.now c.loop-i.i 0) (c.args.begin + c.loop-i.i ≡ c.args.goal) c.kind_of.result
    here =
        let number : ℕ = c.args.begin + c.loop-i.i in
        kind_same (get_or c.args.masks.now c.loop-i.i 0) c.kind_of.result (IsTrue (eqb number c.args.goal)) (number ≡ c.args.goal)
        (eqb-true number c.args.goal) (eq-eqb number c.args.goal) c.kind_of.ensures

    each : (k : ℕ) → k < c.loop-i.i + 1 → IsKindByMask (get_or c.args.masks.now k 0) (c.args.begin + k ≡ c.args.goal)
        (get_or (set c.loop-i.kinds c.loop-i.i c.kind_of.result) k 0)
    each k l = elim (cases_eq k c.loop-i.i) [
      | inl e ↦
          let low : c.loop-i.i < length c.loop-i.kinds = let long = c.loop-i.invariant.len in let t = c.loop-i-test.true in omega arith in
          subst (λ x. IsKindByMask (get_or c.args.masks.now x 0) (c.args.begin + x ≡ c.args.goal)
          (get_or (set c.loop-i.kinds c.loop-i.i c.kind_of.result) x 0)) (sym e) (
          subst (IsKindByMask (get_or c.args.masks.now c.loop-i.i 0) (c.args.begin + c.loop-i.i ≡ c.args.goal))
          (sym (get_or-set_same c.loop-i.kinds c.loop-i.i c.kind_of.result 0 low)) here)
      | inr ne ↦ subst (IsKindByMask (get_or c.args.masks.now k 0) (c.args.begin + k ≡ c.args.goal))
          (sym (get_or-set_other c.loop-i.kinds c.loop-i.i k c.kind_of.result 0 ne)) (c.loop-i.invariant.each k (omega arith))
    ]
