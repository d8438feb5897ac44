use Rattle.std.proofs.Common.{◌≡◌, Ok, take}
use Rattle.pdb_run.specs.Pages.{Adds}
use Rattle.pdb_run.proofs.pages.Page.add.Given as goal

-- the page has gathered the bytes so far, and none of its writes failed
abbrev pub invariant-loop-byte : goal.invariant-loop-byte
invariant-loop-byte g l =
    Adds g.W.Sink.output l.fn.self l.self (take l.byte-index l.bytes) (Ok tt)
    × (l.self.out.ghost_name ≡ l.fn.self.out.ghost_name)
