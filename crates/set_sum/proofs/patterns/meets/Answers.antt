use Rattle.std.proofs.Common.{get_or, inl, inr, refl, sym, ◌∙◌, subst, arith}
use Rattle.std.specs.Prelude.{Any}
use Rattle.std.proofs.lemmas.Bool.{true≢false}
use Rattle.std.proofs.lemmas.List.{take_all}
use Rattle.set_sum.specs.declared.members.Member.{Member}
use Rattle.set_sum.specs.OverPatterns.{tables_with}
use Rattle.set_sum.proofs.ListLemmas.{no_member}
use Rattle.set_sum.proofs.TwiceLemmas.{AreOne, meets_here, meets_none, one_mask, other_mask, plain_pair}
use Rattle.set_sum.proofs.patterns.meets.Goals.{then-member, else-member, else-is_transposed-via-then-is_transposed+else-mask}
use Rattle.set_sum.proofs.patterns.meets.Goals.{else-is_transposed-via-else-is_transposed}
use Rattle.set_sum.proofs.patterns.meets.Goals as goal

-- a member with the mask of the other one, where one of them is transposed, has its pattern
pub returns-then-mask : goal.returns-then-mask
returns-then-mask c =
    let set = c.args.set.now in
    let i = c.loop-member.member-index in
    let m : Member = get_or set i no_member in
    let o = c.args.other in
    let one : AreOne (tables_with c.args.patterns.now) m o = record {
      transposed = elim c.if-member.branch [
        | then-member v ↦ inl v.if-member.true
        | else-member v ↦ inr (sym v.is_transposed-is ∙ c.if-is_transposed.true)
      ];
      same = one_mask (tables_with c.args.patterns.now) m o c.mask.result c.mask-mask.result (c.mask.ensures ∙ c.pattern_for-then-is_transposed.ensures)
          (c.mask-mask.ensures ∙ c.pattern_for.ensures) c.if-mask.true;
    } in
    (λ _. meets_here (tables_with c.args.patterns.now) set i no_member c.loop-member-test.true o one, λ _. refl)

-- a member of another mask, or plain like the other, leaves none so far with its pattern
pub loop-member-preserved : goal.loop-member-preserved
loop-member-preserved c =
    let set = c.args.set.now in
    let i = c.loop-member.member-index in
    let m : Member = get_or set i no_member in
    let o = c.args.other in
    meets_none (tables_with c.args.patterns.now) set i no_member c.loop-member-test.true o c.loop-member.invariant (elim c.else-is_transposed.branch [
      | else-is_transposed-via-then-is_transposed+else-mask w ↦
          other_mask (tables_with c.args.patterns.now) m o w.mask.result c.mask-mask.result (w.mask.ensures ∙ w.pattern_for-then-is_transposed.ensures)
          (c.mask-mask.ensures ∙ c.pattern_for.ensures) (omega arith) (omega arith) w.if-mask.false
      | else-is_transposed-via-else-is_transposed w ↦ elim c.if-member.branch [
        | then-member v ↦ absurd (true≢false (sym v.if-member.true ∙ sym v.is_transposed-is ∙ w.if-is_transposed.false))
        | else-member v ↦ plain_pair (tables_with c.args.patterns.now) m o v.if-member.false (sym v.is_transposed-is ∙ w.if-is_transposed.false)
      ]
    ])

-- at the end, no member has the pattern of the other one
pub returns : goal.returns
returns c =
    let all = take_all c.loop-member.member-index c.args.set.now c.loop-member-test.false in
    let none = subst (λ set. ¬ Any (λ m. AreOne (tables_with c.args.patterns.now) m c.args.other) set) all c.loop-member.invariant in
    (λ is. absurd (true≢false (sym is)), λ h. absurd (none h))
