use Rattle.std.proofs.Common.{◌≡◌, take, true}
use Rattle.std.specs.Prelude.{Any}
use Rattle.set_sum.proofs.tables.mirrored_for.Given as goal

-- no member so far is transposed
abbrev pub invariant-loop-member : goal.invariant-loop-member
invariant-loop-member l = ¬ Any (λ m. m.is_transposed ≡ true) (take l.member-index l.set)
