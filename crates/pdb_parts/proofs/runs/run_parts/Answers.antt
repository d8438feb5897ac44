use Rattle.pdb_request.specs.Asked.{parts_shown}
use Rattle.pdb_run.proofs.AnswerLemmas.{ends_unread}
use Rattle.pdb_parts.specs.Parts.{parts_plan}
use Rattle.pdb_parts.proofs.RunLemmas.{ends_joined, ends_replied, ends_unjoined, refused_reply, refused_tells}
use Rattle.pdb_parts.proofs.runs.run_parts.Goals as goal

-- where an input can't be read, that is said
pub returns-in-Err-clause-ends : goal.returns-in-Err-clause-ends
returns-in-Err-clause-ends g c = ends_unread {plan = parts_plan (parts_shown c.args.asked.now)} c.in-Err.ensures.unread c.say_unread.ensures.said

-- where the parts are joined, the run ends with what is said of them
pub returns-in-Ok-join-clause-ends : goal.returns-in-Ok-join-clause-ends
returns-in-Ok-join-clause-ends g c =
    let arguments = parts_shown c.args.asked.now in
    let read = c.in-Ok.ensures.read in
    let is = c.in-Ok-join.ensures arguments read.text arguments.answers read.answers read.is in
    ends_joined arguments read.text read.answers read.read is.0 is.1 c.in-Ok-join.joined is.2 c.requires c.say_joined.ensures.said

-- where the text spells no board, the run ends with its refusal
pub returns-in-Err-Board-clause-ends : goal.returns-in-Err-Board-clause-ends
returns-in-Err-Board-clause-ends g c =
    let arguments = parts_shown c.args.asked.now in
    let read = c.in-Ok.ensures.read in
    let is = rw c.in-Err-Board.field-0-is at (c.in-Err-Board.ensures arguments read.text arguments.answers read.answers read.is) in
    ends_replied arguments read.text read.answers read.read c.requires _ (refused_reply arguments read.text read.answers read.read c.in-Err-Board.why is)
    c.say_refused.ensures.said

-- and nothing is told beside it
pub returns-in-Err-Board-clause-told : goal.returns-in-Err-Board-clause-told
returns-in-Err-Board-clause-told g c =
    let arguments = parts_shown c.args.asked.now in
    let read = c.in-Ok.ensures.read in
    let is = rw c.in-Err-Board.field-0-is at (c.in-Err-Board.ensures arguments read.text arguments.answers read.answers read.is) in
    refused_tells arguments read.text read.answers read.read c.in-Err-Board.why is _ c.say_refused.result.status

-- where memory was wanted, that is said
pub returns-in-Err-Memory-clause-ends : goal.returns-in-Err-Memory-clause-ends
returns-in-Err-Memory-clause-ends g c =
    let arguments = parts_shown c.args.asked.now in
    let read = c.in-Ok.ensures.read in
    let is = rw c.in-Err-Memory.field-0-is at (c.in-Err-Memory.ensures arguments read.text arguments.answers read.answers read.is) in
    ends_unjoined arguments read.text read.answers read.read is.0 is.1 c.say_no_memory.ensures.said
