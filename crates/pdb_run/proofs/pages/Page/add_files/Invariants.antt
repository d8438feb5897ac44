use Rattle.std.proofs.Common.{◌≡◌, Ok, take}
use Rattle.pdb_run.specs.Pages.{Adds}
use Rattle.pdb_run.specs.Writing.{all_bytes, digests_of}
use Rattle.pdb_run.proofs.pages.Page.add_files.Given as goal

-- the page has gathered the digest lines of the files so far, and none of its writes failed
abbrev pub invariant-loop-file : goal.invariant-loop-file
invariant-loop-file g l =
    Adds g.W.Sink.output l.fn.self l.self (digests_of (all_bytes (take l.file-index l.files))) (Ok tt)
    × (l.self.out.ghost_name ≡ l.fn.self.out.ghost_name)
