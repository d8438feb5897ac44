-- Good lemmas, whose trees prove them, and good logs.
use Rattle.std.specs.Prelude.{◌≡◌, ℕ, ◌-◌, ◌<◌, List, length, Some, None, slice_get}
use Rattle.set_sum.specs.Bundles.{ShownBundle}
use Rattle.log_file.specs.LogFiles.{IsLogFile}
use Rattle.log_file.specs.Logs.{Lemma, Log}
use Rattle.log_check.specs.Refutations.{Refutes}
use Rattle.log_check.specs.Trees.{Tree, spelling}

-- the lemma with this number is good: its bytes spell one tree and nothing more, and the tree refutes that the lemma's board
-- has a solution of fewer moves than the lemma's bound; no move led to that board
pub record IsGood (v : ShownBundle) (log : Log) (i : ℕ) : Type 0 where
  pub lemma : Lemma
  pub there : slice_get log.lemmas i ≡ Some lemma
  pub tree : Tree
  pub spelt : lemma.tree ≡ spelling tree
  pub refutes : Refutes v log i tree lemma.board None lemma.bound

-- each lemma is good
abbrev pub AreGood : ShownBundle → Log → Type 0
AreGood v log = (i : ℕ) → i < length log.lemmas → IsGood v log i

-- the last lemma
abbrev pub IsLast : List Lemma → Lemma → Type 0
IsLast lemmas lemma = slice_get lemmas (length lemmas - 1) ≡ Some lemma

-- a log for this board: its boards and those of the bundle have one side, and its last lemma is of this board
pub record IsLogFor (v : ShownBundle) (log : Log) (b : List ℕ) (last : Lemma) : Type 0 where
  pub side : log.side ≡ v.side
  pub is_last : IsLast log.lemmas last
  pub board : last.board ≡ b

-- a good log for this board and bound: each lemma is good, and the last one is of this board and this bound
pub record IsGoodLog (v : ShownBundle) (log : Log) (b : List ℕ) (bound : ℕ) : Type 0 where
  pub last : Lemma
  pub is_for : IsLogFor v log b last
  pub bound_is : last.bound ≡ bound
  pub good : AreGood v log

-- the bytes are the file of a good log for this board and bound
pub record IsGoodFile (v : ShownBundle) (b file : List ℕ) (bound : ℕ) : Type 0 where
  pub log : Log
  pub is_file : IsLogFile log file
  pub good : IsGoodLog v log b bound
