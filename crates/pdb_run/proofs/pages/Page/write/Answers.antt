use Rattle.byte_io.proofs.Appending.{writes_behind}
use Rattle.pdb_run.proofs.pages.Page.write.Goals as goal

-- writing the page writes what was gathered on it, or a front of that
pub returns-clause-finished : goal.returns-clause-finished
returns-clause-finished g c = λ start text page.
    rw (← page.whole, ← c.as_slice.ensures.value)
    (writes_behind _ _ _ page.front _ _ page.written c.put_bytes-written.ensures)
