use Rattle.std.proofs.Common.{map, string_bytes}
use Rattle.pdb_program.proofs.ProgramLemmas.{parsed_ends, parsed_tells}
use Rattle.pdb_program.proofs.programs.answer.Goals as goal

-- where words that parse are not read, memory is what lacks, and the run ends by saying so
pub returns-in-Err-clause-ends : goal.returns-in-Err-clause-ends
returns-in-Err-clause-ends g c = λ parses.
    let words = map string_bytes c.args.words.now in
    parsed_ends words _ _ _ _ c.explain.result.status parses c.explain.ensures.same (c.explain.ensures.refuses words c.in-Err.ensures.cause)

-- words that ask for nothing skip no lines
pub returns-in-Err-clause-tells : goal.returns-in-Err-clause-tells
returns-in-Err-clause-tells g c = λ parses.
    let words = map string_bytes c.args.words.now in
    parsed_tells words _ _ _ _ c.explain.result.status parses (c.explain.ensures.refuses words c.in-Err.ensures.cause)

-- what was read has workers and parts in order
pub answer_to-requires-after_bounds : goal.answer_to-requires-after_bounds
answer_to-requires-after_bounds g c _ _ = (c.in-Ok.ensures.workers, c.in-Ok.ensures.count)

-- where words are read, what they ask for is done
pub returns-clause-ends : goal.returns-clause-ends
returns-clause-ends g c = λ parses. rw c.in-Ok.ensures.asked at c.answer_to.ensures.ends

-- and told of
pub returns-clause-tells : goal.returns-clause-tells
returns-clause-tells g c = λ parses. rw c.in-Ok.ensures.asked at c.answer_to.ensures.tells

-- and it keeps nothing, where they ask to keep nothing
pub returns-clause-same : goal.returns-clause-same
returns-clause-same g c = λ keeps. c.answer_to.ensures.same (rw c.in-Ok.ensures.asked (keeps c.in-Ok.ensures.parses))
