use Rattle.std.proofs.Common.{◌+◌, get_or, sym, ◌∙◌, subst, arith, take}
use Rattle.std.proofs.lemmas.List.{take_more}
use Rattle.tab_rule.specs.declared.tables.Count.TheVariants.{Finite}
use Rattle.set_sum.specs.Members.{MemberSays}
use Rattle.set_sum.specs.Sums.{AddUpTo}
use Rattle.set_sum.specs.declared.members.Member.{Member}
use Rattle.set_sum.proofs.ListLemmas.{no_member}
use Rattle.set_sum.proofs.SumLemmas.{AddUpTo-push}
use Rattle.set_sum.proofs.sums.Sums.sum.Goals as goal

-- adding the number of the next member leaves the sum of the members so far
pub loop-member-preserved : goal.loop-member-preserved
loop-member-preserved c =
    let now = c.args.self.now in
    let set = c.members-member-items.result.now in
    let i = c.loop-member.member-index in
    let m : Member = get_or set i no_member in
    let each = c.said.ensures.few c.in-Finite.count c.in-Finite.is in
    let so_far = c.loop-member.invariant.few in
    let told = subst (λ w. MemberSays w.bundle.tables m w.board (Finite c.in-Finite.count)) c.loop-member.invariant.same c.in-Finite.ensures.says in
    record {
      adds = subst (λ ms. AddUpTo now.bundle.tables ms now.board (c.loop-member.total + c.in-Finite.count))
          (sym (take_more set i no_member c.loop-member-test.true)) (
          AddUpTo-push now.bundle.tables (take i set) m now.board c.loop-member.total c.in-Finite.count c.loop-member.invariant.adds told);
      few = omega arith;
      same = c.said.ensures.same ∙ c.loop-member.invariant.same;
    }
