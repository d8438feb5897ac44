use Rattle.std.proofs.Common.{◌≡◌, ◌∙◌, ap, drop, map, refl, rules, sym}
use Rattle.std.specs.String.{string_bytes}
use Rattle.pdb_program.proofs.HeadlineLemmas.{headline_of, part_lines_of}
use Rattle.pdb_program.proofs.ProgramLemmas.{runs_on}
use Rattle.pdb_program.proofs.starts.start.Goals as goal

-- where the arguments are there, the run is one on the words behind the program's name
pub returns-in-Ok-clause-runs : goal.returns-in-Ok-clause-runs
returns-in-Ok-clause-runs g c =
    let shelf : c.shelf-1.given.0 ≡ c.answer_read.new.io.shelf.now = search rules in
    let reader : c.reader-1.given.0 ≡ c.answer_read.new.io.reader.now = search rules in
    let out : c.out-1.given.0 ≡ c.answer_read.new.io.out.now = search rules in
    let said = c.answer_read.ensures in
    rw (c.in-Ok.is, shelf, reader, out) (runs_on _ _ _ _ _ _ c.answer_read.result.status refl said.ends said.refuses said.tells said.same)

-- where an argument is no text, this is said with its place, nothing is written, and the status is that of a fault
pub returns-in-Err-clause-unreadable : goal.returns-in-Err-clause-unreadable
returns-in-Err-clause-unreadable g c = rw c.in-Err.is c.without_words.ensures.unreadable

-- where the arguments are there, the headline holds of the words behind the program's name
pub returns-in-Ok-clause-headline : goal.returns-in-Ok-clause-headline
returns-in-Ok-clause-headline g c = rw c.in-Ok.is (λ before later input start lines parses had has left stood wrote.
    let shelf : c.shelf-1.given.0 ≡ c.answer_read.new.io.shelf.now = search rules in
    let out : c.out-1.given.0 ≡ c.answer_read.new.io.out.now = search rules in
    let said = c.answer_read.ensures in
    headline_of _ _ _ _ _ _ _ refl (runs_on _ _ _ _ _ _ c.answer_read.result.status refl said.ends said.refuses said.tells said.same)
    before later input start lines parses had
    (ap g.S.Shelf.held (sym shelf) ∙ has) left stood (ap (λ w. (g.W.Sink.output w).bytes) (sym out) ∙ wrote))

-- where the arguments are there, each line on a part is true, for the words behind the program's name
pub returns-in-Ok-clause-part_lines : goal.returns-in-Ok-clause-part_lines
returns-in-Ok-clause-part_lines g c = rw c.in-Ok.is (λ a start lines parses asked stood wrote.
    let out : c.out-1.given.0 ≡ c.answer_read.new.io.out.now = search rules in
    let words = drop 1 (map string_bytes c.in-Ok.read.now.all.now) in
    part_lines_of words words _ _ _ refl c.answer_read.ensures.ends
    a start lines parses asked stood (ap (λ w. (g.W.Sink.output w).bytes) (sym out) ∙ wrote))
