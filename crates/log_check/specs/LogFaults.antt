-- What keeps bytes from being the file of a good log for a board.
use Rattle.std.specs.Prelude.{◌≡◌, ◌≢◌, ℕ, ◌<◌, List, length}
use Rattle.puz_board.specs.Boards.{side_of}
use Rattle.set_sum.specs.Bundles.{ShownBundle}
use Rattle.log_file.specs.FormFaults as form
use Rattle.log_file.specs.LogFiles.{IsLogFile}
use Rattle.log_file.specs.Logs.{Lemma, Log}
use Rattle.log_check.specs.GoodLogs.{IsGood, IsLast, IsLogFor}
use Rattle.log_check.specs.declared.faults.LogFault.{LogFault}
use Rattle.log_check.specs.declared.faults.LogFault.TheVariants.{Memory, Refused}
use Rattle.log_check.specs.declared.faults.LogRefusal.{LogRefusal}
use Rattle.log_check.specs.declared.faults.LogRefusal.TheVariants.{Form, L4, L5, L6}

-- the boards of the log, those of the bundle and this board have one side
pub record AreOfOneSide (v : ShownBundle) (log : Log) (b : List ℕ) : Type 0 where
  pub log_side : log.side ≡ v.side
  pub board_side : side_of b ≡ v.side

-- the lemma with this number isn't good, and each one with a smaller number is
pub record IsFirstBadLemma (v : ShownBundle) (log : Log) (i : ℕ) : Type 0 where
  pub there : i < length log.lemmas
  pub bad : ¬ IsGood v log i
  pub before : (j : ℕ) → j < i → IsGood v log j

-- the fault stands, and none of those before it
abbrev pub IsLogRefusalOf : LogRefusal → ShownBundle → List ℕ → List ℕ → Type 0
IsLogRefusalOf (Form fault) v b file = form.IsFormFaultOf fault file
IsLogRefusalOf L4 v b file = (log : Log) × IsLogFile log file × ¬ AreOfOneSide v log b
IsLogRefusalOf L5 v b file = (log : Log) × (last : Lemma) × IsLogFile log file × AreOfOneSide v log b × IsLast log.lemmas last × (last.board ≢ b)
IsLogRefusalOf (L6 i) v b file = (log : Log) × (last : Lemma) × IsLogFile log file × IsLogFor v log b last × IsFirstBadLemma v log i

-- why no bound comes of the bytes: a fault of theirs, or want of memory, which comes of any log file and of no other bytes
abbrev pub IsCauseOfLogFault : LogFault → ShownBundle → List ℕ → List ℕ → Type 0
IsCauseOfLogFault (Refused fault) v b file = IsLogRefusalOf fault v b file
IsCauseOfLogFault Memory v b file = (log : Log) × IsLogFile log file
