use Rattle.std.proofs.Common.{inl}
use Rattle.pdb_request.specs.Asked.{prove_shown}
use Rattle.pdb_prove.specs.Prove.{digested_files, in_order}
use Rattle.pdb_prove.proofs.EndLemmas.{fault_told}
use Rattle.pdb_prove.proofs.runs.tell_fault.Goals as goal

-- a run that says why nothing is searched ends as its plan says
pub returns-clause-ends : goal.returns-clause-ends
returns-clause-ends g c = λ files old are digested is.
    let told = c.told_or_memory.ensures in
    inl (c.conclude.ensures.ends (in_order files) old are
    (fault_told (prove_shown c.args.command.now.0.now) files c.args.fault c.told_or_memory.result.answer is
    (told.told (digested_files files) digested) told.memory))
