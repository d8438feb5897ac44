-- Laws of logs.
use Rattle.std.specs.Prelude.{◌≡◌, ◌⊎◌, ℕ, List, Some, slice_get}
use Rattle.set_sum.specs.Bounds.{IsBounded}
use Rattle.set_sum.specs.Bundles.{ShownBundle, IsBundle}
use Rattle.log_file.specs.Logs.{IsLog, Lemma, Log}
use Rattle.log_check.specs.GoodLogs.{AreGood, IsGood, IsGoodFile, IsGoodLog}
use Rattle.log_check.specs.LogFaults.{IsLogRefusalOf}
use Rattle.log_check.specs.declared.faults.LogRefusal.{LogRefusal}

-- where each lemma of a log is good, each bounds the solutions of its board
abbrev pub GoodLemmasBound : Type 0
GoodLemmasBound =
    (v : ShownBundle) → IsBundle v → (log : Log) → IsLog log → log.side ≡ v.side → AreGood v log →
    (i : ℕ) (lemma : Lemma) → slice_get log.lemmas i ≡ Some lemma → IsBounded lemma.board lemma.bound

-- no solution of the board of a good log has fewer moves than its bound
abbrev pub GoodLogsBound : Type 0
GoodLogsBound =
    (v : ShownBundle) → IsBundle v → (log : Log) → IsLog log → (b : List ℕ) (bound : ℕ) → IsGoodLog v log b bound → IsBounded b bound

-- a lemma is good or it isn't
abbrev pub LemmasAreGoodOrNot : Type 0
LemmasAreGoodOrNot =
    (v : ShownBundle) → IsBundle v → (log : Log) → IsLog log → log.side ≡ v.side → (i : ℕ) → IsGood v log i ⊎ (¬ IsGood v log i)

-- ---- one answer

-- no bytes are the file of good logs for two bounds
abbrev pub FilesHaveOneBound : Type 0
FilesHaveOneBound = (v : ShownBundle) (b file : List ℕ) (m n : ℕ) → IsGoodFile v b file m → IsGoodFile v b file n → m ≡ n

-- none have two faults
abbrev pub LogFilesHaveOneFault : Type 0
LogFilesHaveOneFault = (v : ShownBundle) (b file : List ℕ) (f g : LogRefusal) → IsLogRefusalOf f v b file → IsLogRefusalOf g v b file → f ≡ g

-- the file of a good log has none
abbrev pub GoodFilesHaveNoFault : Type 0
GoodFilesHaveNoFault = (v : ShownBundle) (b file : List ℕ) (bound : ℕ) (f : LogRefusal) → IsGoodFile v b file bound → ¬ IsLogRefusalOf f v b file

-- for a bundle all bytes are such a file or have a fault
abbrev pub LogFilesHaveAnAnswer : Type 0
LogFilesHaveAnAnswer =
    (v : ShownBundle) → IsBundle v → (b file : List ℕ) → ((bound : ℕ) × IsGoodFile v b file bound) ⊎ ((f : LogRefusal) × IsLogRefusalOf f v b file)
