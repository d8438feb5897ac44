use Rattle.std.proofs.Common.{◌≡◌, ◌∙◌, ap, map, rules, sym}
use Rattle.std.specs.String.{string_bytes}
use Rattle.pdb_program.proofs.HeadlineLemmas.{headline_of, part_lines_of}
use Rattle.pdb_program.proofs.ProgramLemmas.{runs_on}
use Rattle.pdb_program.proofs.programs.run.Goals as goal

-- The headline is answered first and by itself, so that a wrong body is refused by it.
pub returns-clause-headline : goal.returns-clause-headline
returns-clause-headline g c = λ before later input start lines parses had has left stood wrote.
    let shelf : c.shelf-1.given.0 ≡ c.answer.new.io.shelf.now = search rules in
    let out : c.out-1.given.0 ≡ c.answer.new.io.out.now = search rules in
    let said = c.answer.ensures in
    let same = ap (map string_bytes) c.as_slice.ensures.value in
    headline_of _ _ _ _ _ _ _ same (runs_on _ _ _ _ _ c.code.result c.answer.result.status c.code.ensures said.ends said.refuses said.tells said.same)
    before later input start lines parses had
    (ap g.S.Shelf.held (sym shelf) ∙ has) left stood (ap (λ w. (g.W.Sink.output w).bytes) (sym out) ∙ wrote)

-- each whole line on a part that a run writes is true of its board
pub returns-clause-part_lines : goal.returns-clause-part_lines
returns-clause-part_lines g c = λ a start lines parses asked stood wrote.
    let out : c.out-1.given.0 ≡ c.answer.new.io.out.now = search rules in
    part_lines_of _ _ _ _ _ (ap (map string_bytes) c.as_slice.ensures.value) c.answer.ensures.ends
    a start lines parses asked stood (ap (λ w. (g.W.Sink.output w).bytes) (sym out) ∙ wrote)

-- a run does what its words ask for, or says why they ask for nothing, and ends with that status
pub returns-clause-runs : goal.returns-clause-runs
returns-clause-runs g c =
    let shelf : c.shelf-1.given.0 ≡ c.answer.new.io.shelf.now = search rules in
    let reader : c.reader-1.given.0 ≡ c.answer.new.io.reader.now = search rules in
    let out : c.out-1.given.0 ≡ c.answer.new.io.out.now = search rules in
    let said = c.answer.ensures in
    rw (← c.as_slice.ensures.value, shelf, reader, out)
    (runs_on _ _ _ _ _ c.code.result c.answer.result.status c.code.ensures said.ends said.refuses said.tells said.same)
