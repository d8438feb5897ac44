use Rattle.std.proofs.Common.{take}
use Rattle.book_core.proofs.RunLemmas.{stops_at, BookLaw-going, SameSizes-going}
use Rattle.book_core.proofs.cores.Core.run.Goals as goal

-- where an event meets a fault, the run stops at it, with as many answers as events before it
pub returns-in-Err-clause-fault : goal.returns-in-Err-clause-fault
returns-in-Err-clause-fault c =
    let i = c.loop-i.invariant in
    stops_at c.args.self.now c.args.events.now c.loop-i.i c.loop-i.self c.loop-i.answers.items i.before i.count c.loop-i-test.true _ c.in-Err.fault
    c.in-Err.ensures.fault

-- where a run meets a fault, the events before it have kept the law of the book
pub returns-in-Err-clause-law : goal.returns-in-Err-clause-law
returns-in-Err-clause-law c =
    rw c.in-Err.ensures.err (BookLaw-going c.args.self.now c.loop-i.self (take c.loop-i.i c.args.events.now) c.loop-i.answers.items c.loop-i.invariant.before)

-- where all events of a run are answered, they have kept the law of the book
pub returns-clause-law : goal.returns-clause-law
returns-clause-law c = BookLaw-going c.args.self.now c.loop-i.self (take c.loop-i.i c.args.events.now) c.loop-i.answers.items c.loop-i.invariant.before

-- where a run meets a fault, the events before it have left as many jobs and passes as there were
pub returns-in-Err-clause-sizes : goal.returns-in-Err-clause-sizes
returns-in-Err-clause-sizes c =
    rw c.in-Err.ensures.err (SameSizes-going c.args.self.now c.loop-i.self (take c.loop-i.i c.args.events.now) c.loop-i.answers.items c.loop-i.invariant.before)

-- where all events of a run are answered, there are as many jobs and passes as there were
pub returns-clause-sizes : goal.returns-clause-sizes
returns-clause-sizes c = SameSizes-going c.args.self.now c.loop-i.self (take c.loop-i.i c.args.events.now) c.loop-i.answers.items c.loop-i.invariant.before
