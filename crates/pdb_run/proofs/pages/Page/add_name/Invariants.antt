use Rattle.std.proofs.Common.{◌≡◌, Ok, map, take}
use Rattle.pdb_run.specs.Pages.{Adds}
use Rattle.pdb_run.specs.Writing.{shown_byte}
use Rattle.pdb_run.proofs.pages.Page.add_name.Given as goal

-- the page has gathered the bytes of the name so far as a line shows them, and no write failed
abbrev pub invariant-loop-byte : goal.invariant-loop-byte
invariant-loop-byte g l =
    Adds g.W.Sink.output l.fn.self l.self (take l.byte-index (map shown_byte l.byte-items)) (Ok tt)
    × (l.self.out.ghost_name ≡ l.fn.self.out.ghost_name)
