use Rattle.std.proofs.Common.{◌≡◌, ℕ, List, false, take}
use Rattle.byte_io.specs.Memory.{files_in}
use Rattle.byte_io.specs.Shelf.{files_of}
use Rattle.byte_io.proofs.memory.MemShelf.of.Given as goal

-- the shelf has the files of the list so far, the last of a name counting, and none has failed
abbrev pub invariant-loop-file : goal.invariant-loop-file
invariant-loop-file l = ((name : List ℕ) → files_in l.shelf name ≡ files_of (take l.file-index l.files) name) × (l.shelf.has_failed ≡ false)
