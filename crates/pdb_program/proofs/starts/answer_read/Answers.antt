use Rattle.pdb_program.proofs.starts.answer_read.Goals as goal

-- what was read has workers and parts in order
pub answer_to-requires-after_bounds : goal.answer_to-requires-after_bounds
answer_to-requires-after_bounds g c _ _ = c.args.read.now.orderly _ c.in-Some.is

-- words that were read parse, and what they ask for is done
pub returns-in-Some-clause-ends : goal.returns-in-Some-clause-ends
returns-in-Some-clause-ends g c = λ parses. rw (c.args.read.now.is_asked _ c.in-Some.is) at c.answer_to.ensures.ends

pub returns-in-Some-clause-refuses : goal.returns-in-Some-clause-refuses
returns-in-Some-clause-refuses g c = λ fails. absurd (fails (c.args.read.now.parses _ c.in-Some.is))

-- and told of
pub returns-in-Some-clause-tells : goal.returns-in-Some-clause-tells
returns-in-Some-clause-tells g c = λ parses. rw (c.args.read.now.is_asked _ c.in-Some.is) at c.answer_to.ensures.tells

-- and it keeps nothing, where they ask to keep nothing
pub returns-in-Some-clause-same : goal.returns-in-Some-clause-same
returns-in-Some-clause-same g c = λ keeps.
    let read = c.args.read.now in
    c.answer_to.ensures.same (rw (read.is_asked _ c.in-Some.is) (keeps (read.parses _ c.in-Some.is)))

-- other words are those behind the program's name
pub returns-in-None-clause-ends : goal.returns-in-None-clause-ends
returns-in-None-clause-ends g c = rw (← c.words_in.ensures) c.answer.ensures.ends

pub returns-in-None-clause-refuses : goal.returns-in-None-clause-refuses
returns-in-None-clause-refuses g c = rw (← c.words_in.ensures) c.answer.ensures.refuses

pub returns-in-None-clause-tells : goal.returns-in-None-clause-tells
returns-in-None-clause-tells g c = rw (← c.words_in.ensures) c.answer.ensures.tells

pub returns-in-None-clause-same : goal.returns-in-None-clause-same
returns-in-None-clause-same g c = rw (← c.words_in.ensures) c.answer.ensures.same
