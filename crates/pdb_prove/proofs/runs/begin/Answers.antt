use Rattle.std.proofs.Common.{◌∙◌}
use Rattle.pdb_prove.specs.Steps.{claims_of}
use Rattle.pdb_prove.proofs.EndLemmas.{head_cut}
use Rattle.pdb_prove.proofs.runs.begin.Goals as goal

-- where something is wrong, the run ends with why
pub returns-in-Err-clause-begins : goal.returns-in-Err-clause-begins
returns-in-Err-clause-begins g c = λ files old are digested ready.
    c.tell_fault.ensures.ends files old are digested (rw c.in-Err.is at ready)

-- where the digests are written, the run has begun
pub returns-in-Ok-write_answer-clause-begins : goal.returns-in-Ok-write_answer-clause-begins
returns-in-Ok-write_answer-clause-begins g c = λ files old are digested ready. record {
  read = g.I.Io.world c.args.io.now;
  are = are;
  ready = rw c.in-Ok.is at ready;
  head = rw (c.digests_alone.ensures ∙ digested, c.in-Ok-write_answer.is) at c.write_answer.ensures.written;
}

-- where they aren't all written, it is cut short before the first claim
pub returns-clause-begins : goal.returns-clause-begins
returns-clause-begins g c = λ files old are digested ready.
    let head = rw (c.digests_alone.ensures ∙ digested, c.in-Err-write_answer.is) at c.write_answer.ensures.written in
    rw c.by.ensures.status (head_cut (claims_of c.in-Ok.ready.asked) c.in-Ok.ready.bundle are (rw c.in-Ok.is at ready) head)
