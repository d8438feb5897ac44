-- How a view of a log is stored: its lemmas in a list, each with its board and where its tree lies.
use Rattle.std.specs.Prelude.{map}
use Rattle.log_file.specs.Logs.{Lemma, Log}
use Rattle.log_file.specs.declared.views.LemmaView.{LemmaView}
use Rattle.log_file.specs.declared.views.LogView.TheInside.{Inside}

-- the lemma that is seen through its view
abbrev pub lemma_viewed : LemmaView → Lemma
lemma_viewed lemma = record { board = lemma.board; bound = lemma.bound; tree = lemma.tree.now }

-- the log with this version, this side and these lemmas
abbrev pub log_shown : Inside → Log
log_shown view = record { version = view.version; side = view.side; lemmas = map lemma_viewed view.lemmas.items }
