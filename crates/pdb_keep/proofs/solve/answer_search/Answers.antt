use Rattle.std.proofs.Common.{append-nil, rules, sym}
use Rattle.puz_board.specs.BoardTexts.{Spells}
use Rattle.pdb_run.specs.Answers.{all_bytes}
use Rattle.pdb_keep.proofs.MakerLemmas.{made_moves}
use Rattle.pdb_keep.proofs.solve.answer_search.Goals as goal

-- where a search made something, it has as many moves as it counts
pub answer_of-requires : goal.answer_of-requires
answer_of-requires g c =
    let asked = c.args.search.now in
    let spelt : Spells asked.board.items c.in-Ok.board = search (rules, c.read.ensures.ok) in
    let read = rw (c.as_slice-kept.ensures.value, c.given_up-given.ensures.all) at c.over_tables-digested.ensures.found in
    made_moves asked.goal asked.fold asked.budget asked.board.items _ _ c.over_tables-digested.result.1 (read.2.1 _ _ _ _ spelt read.1)

-- for a text that spells a board, what is answered is what the search over the tables came to
pub returns-in-Ok : goal.returns-in-Ok
returns-in-Ok g c =
    let asked = c.args.search.now in
    let spelt : Spells asked.board.items c.in-Ok.board = search (rules, c.read.ensures.ok) in
    let read = rw (c.as_slice-sets.ensures.value, c.as_slice-kept.ensures.value, c.given_up-given.ensures.all) at c.over_tables-digested.ensures.found in
    let lines = rw (append-nil, c.as_slice-kept.ensures.value, c.given_up-given.ensures.all) at c.over_tables-digested.ensures.digested in
    c.answer_of.ensures asked.fold asked.budget asked.board.items asked.sets.items (all_bytes asked.tables.items) lines (read.2.1 _ _ _ _ spelt read.1)

-- for a text that spells no board, what is answered is the refusal of the text
pub returns-in-Err : goal.returns-in-Err
returns-in-Err g c =
    let asked = c.args.search.now in
    let why = rw (c.as_slice.ensures.value, c.in-Err.is) at c.read.ensures.exact in
    let lines = rw c.as_slice-in-Err.ensures.value at c.refused_beside-digested.ensures.digested in
    c.answer_of-in-Err.ensures asked.fold asked.budget asked.board.items asked.sets.items (all_bytes asked.tables.items) lines
    (rw c.refused_beside-digested.ensures.outcome (sym why))
