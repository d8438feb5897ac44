use Rattle.std.proofs.Common.{length, inl, arith}
use Rattle.std.proofs.lemmas.Bool.{lt-ltb, ltb-true}
use Rattle.move_strings.proofs.OrderLemmas.{ComesBefore-few}
use Rattle.move_strings.proofs.order.comes_before.Goals as goal

-- of two strings of different length the shorter one comes before the other
pub returns-then-first-second : goal.returns-then-first-second
returns-then-first-second c =
    let first = c.args.first.now in
    let second = c.args.second.now in (
      λ t. inl (ltb-true (length first) (length second) t),
      λ before. lt-ltb (length first) (length second) (let few = ComesBefore-few first second before in let other = c.if-first-second.true in omega arith),
    )
