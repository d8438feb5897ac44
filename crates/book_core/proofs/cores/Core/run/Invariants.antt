use Rattle.std.proofs.Common.{◌≡◌, length, take}
use Rattle.book_core.specs.Runs.{going, run_from}
use Rattle.book_core.proofs.cores.Core.run.Given as goal

-- the events so far lead from the first book to this one without a fault, with an answer for each
abbrev pub invariant-loop-i : goal.invariant-loop-i
invariant-loop-i l = record {
  before : run_from l.fn.self (take l.i l.events) ≡ going l.self l.answers.items;
  count : length l.answers.items ≡ l.i;
}
