use Rattle.std.proofs.Common.{◌<◌, ◌≤◌, ◌∷◌, [], ◌++◌, take, inl, inr, sym, ◌∙◌, ap, subst}
use Rattle.std.proofs.lemmas.Bool.{both_ways, false≢true}
use Rattle.std.proofs.lemmas.Slice.Eq.{bytes_eq-Decides}
use Rattle.std.specs.Prelude.{option_map}
use Rattle.set_sum.specs.ReadLines.{ending}
use Rattle.set_sum.specs.SetTexts.{member_text}
use Rattle.set_sum.proofs.ReadLemmas.{IsPushed, begins_with_set, line_read, member_more, next_member}
use Rattle.set_sum.proofs.OrderLemmas.{place}
use Rattle.set_sum.proofs.lines.split_line.Goals as goal
use Rattle.set_sum.proofs.lines.split_line.Goals.{then-from-tables, else-from-tables, then-is_there, else-is_there}

-- a text that doesn't begin with the word of a set and a space begins with no line of a set
pub returns-then-not-starts_with-clause-read : goal.returns-then-not-starts_with-clause-read
returns-then-not-starts_with-clause-read c members behind line is =
    let begins = begins_with_set c.args.text.now members behind line is in
    absurd (both_ways c.starts_with.result c.if-not-starts_with.true
    (c.starts_with.ensures.value ∙ (bytes_eq-Decides (115 ∷ 101 ∷ 116 ∷ 32 ∷ []) (take 4 c.args.text.now)).1 (sym begins)))

-- where no further member is at the front of the rest, the text begins with no line of a set
pub returns-in_err-front-clause-read : goal.returns-in_err-front-clause-read
returns-in_err-front-clause-read c members behind line is =
    let next = next_member c.args.tables c.args.text.now c.members.rest.now c.members.members.items c.members.is_there c.members.last
    c.members.invariant members behind line is in
    absurd (false≢true (c.in_err-front.ensures.read next.member next.end next.behind next.short next.next next.is_end next.text))

-- where LF ends a member, the line is read with the members so far and this one
pub returns-then-front-clause-some : goal.returns-then-front-clause-some
returns-then-front-clause-some c =
    let front = c.in_ok-front.front in
    let pushed : IsPushed c.args.tables front.member c.members.members.items c.members.is_there c.if-from-tables.members.items
    c.if-from-tables.is_there = elim c.if-from-tables.branch [
      | then-from-tables w ↦ inl (
        subst (λ n. n < c.args.tables) c.from.ensures w.if-from-tables.true,
        ap (λ s. s.items) w.members-is
            ∙ w.push.ensures.items,
        w.is_there-is,
      )
      | else-from-tables w ↦ inr (subst (λ n. c.args.tables ≤ n) c.from.ensures w.if-from-tables.false, ap (λ s. s.items) w.members-is, w.is_there-is)
    ] in
    let has = member_more c.args.tables c.args.text.now c.members.rest.now c.members.members.items c.members.is_there c.members.last front.member
    (10 ∷ front.rest.now) c.members.invariant
    c.in_ok-front.ensures.some.0 c.in_ok-front.ensures.some.1
    (c.in_ok-front.ensures.some.2 ∙ ap (λ last. member_text front.member ++ ending last ∷ front.rest.now) c.if-front.true)
    c.if-from-tables.members.items c.if-from-tables.is_there pushed in
    line_read c.args.tables c.args.text.now front.rest.now c.if-from-tables.members.items c.if-from-tables.is_there (place front.member) has
    (option_map (λ set. set.items) c.if-is_there.set) (elim c.if-is_there.branch [
      | then-is_there w ↦ inl (w.if-is_there.true, ap (option_map (λ set. set.items)) w.set-is)
      | else-is_there w ↦ inr (w.if-is_there.false, ap (option_map (λ set. set.items)) w.set-is)
    ])

-- a member that a space ends is one more of those read
pub members-preserved : goal.members-preserved
members-preserved c =
    let front = c.in_ok-front.front in
    let pushed : IsPushed c.args.tables front.member c.members.members.items c.members.is_there c.if-from-tables.members.items
    c.if-from-tables.is_there = elim c.if-from-tables.branch [
      | then-from-tables w ↦ inl (
        subst (λ n. n < c.args.tables) c.from.ensures w.if-from-tables.true,
        ap (λ s. s.items) w.members-is
            ∙ w.push.ensures.items,
        w.is_there-is,
      )
      | else-from-tables w ↦ inr (subst (λ n. c.args.tables ≤ n) c.from.ensures w.if-from-tables.false, ap (λ s. s.items) w.members-is, w.is_there-is)
    ] in
    let has = member_more c.args.tables c.args.text.now c.members.rest.now c.members.members.items c.members.is_there c.members.last front.member
    (32 ∷ front.rest.now) c.members.invariant
    c.in_ok-front.ensures.some.0 c.in_ok-front.ensures.some.1
    (c.in_ok-front.ensures.some.2 ∙ ap (λ last. member_text front.member ++ ending last ∷ front.rest.now) c.if-front.false)
    c.if-from-tables.members.items c.if-from-tables.is_there pushed in
    has
