use Rattle.std.proofs.Common.{List, ◌∷◌, [], drop, get_or, refl, suc, sym, ◌∙◌, ap, subst, arith, take}
use Rattle.std.specs.Prelude.{bit_or}
use Rattle.std.proofs.lemmas.List.{map-append, take_more}
use Rattle.set_sum.specs.Members.{pattern_of, patterns_of_set}
use Rattle.set_sum.specs.Parts.{parts_shown}
use Rattle.set_sum.specs.Reading.{first_side}
use Rattle.set_sum.specs.Sums.{HaveOverlap}
use Rattle.set_sum.specs.declared.members.Member.{Member}
use Rattle.set_sum.specs.OverPatterns.{tables_with}
use Rattle.set_sum.proofs.ListLemmas.{no_member, split_at}
use Rattle.set_sum.proofs.TakenLemmas.{IsTaken, taken_meets, taken_more}
use Rattle.set_sum.proofs.patterns.overlap.Goals as goal

-- a member that shares no taken tile adds its tiles to those of the members so far
pub loop-member-preserved : goal.loop-member-preserved
loop-member-preserved c =
    let set = c.args.set.now in
    let i = c.loop-member.member-index in
    let m : Member = get_or set i no_member in
    let pattern = pattern_of (first_side (tables_with c.args.patterns.now)) (parts_shown (tables_with c.args.patterns.now)) in
    let patterns = patterns_of_set (first_side (tables_with c.args.patterns.now)) (parts_shown (tables_with c.args.patterns.now)) in
    let more = ap patterns (take_more set i no_member c.loop-member-test.true) ∙ map-append pattern (take i set) (m ∷ []) in
    subst (λ ps. IsTaken ps (bit_or c.loop-member.taken c.mask-mask.result)) (sym more) (
    taken_more (patterns (take i set)) c.loop-member.taken c.mask-mask.result (pattern m) c.loop-member.invariant
    (c.mask-mask.ensures ∙ c.pattern_for.ensures) (omega arith) c.if-taken-mask-ne0.false)

-- a member whose mask meets the taken tiles overlaps with one before it
pub returns-then-taken-mask-ne0 : goal.returns-then-taken-mask-ne0
returns-then-taken-mask-ne0 c =
    let set = c.args.set.now in
    let i = c.loop-member.member-index in
    let m : Member = get_or set i no_member in
    let rest : List Member = drop (suc i) set in
    let pattern = pattern_of (first_side (tables_with c.args.patterns.now)) (parts_shown (tables_with c.args.patterns.now)) in
    let patterns = patterns_of_set (first_side (tables_with c.args.patterns.now)) (parts_shown (tables_with c.args.patterns.now)) in
    let here = ap patterns (split_at set i no_member c.loop-member-test.true) ∙ map-append pattern (take i set) (m ∷ rest) in
    let meets = taken_meets (patterns (take i set)) c.loop-member.taken c.mask-mask.result (pattern m) c.loop-member.invariant
    (c.mask-mask.ensures ∙ c.pattern_for.ensures) (omega arith)
    c.if-taken-mask-ne0.true (patterns rest) in
    (λ _. subst HaveOverlap (sym here) meets, λ _. refl)
