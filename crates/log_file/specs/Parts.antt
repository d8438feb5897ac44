-- The lemma at the front of bytes, as its parts lie there.
use Rattle.log_file.specs.Logs.{Lemma}
use Rattle.log_file.specs.declared.fronts.Parts.{Parts}

-- the lemma of these parts
abbrev pub lemma_shown : Parts → Lemma
lemma_shown parts = record { board = parts.cells.now; bound = parts.bound; tree = parts.tree.now }
