use Rattle.std.proofs.Common.{◌≡◌, replicate}
use Rattle.book_core.specs.Passes.{fresh}
use Rattle.book_core.proofs.cores.Core.start.Given as goal

-- the passes so far are as many as were counted, and have done nothing yet
abbrev pub invariant-loop : goal.invariant-loop
invariant-loop l = l.passes.items ≡ replicate l.counter fresh
