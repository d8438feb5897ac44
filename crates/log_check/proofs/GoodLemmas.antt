-- Good lemmas bound the solutions of their boards, and good logs those of theirs.
use Rattle.std.proofs.Common.{◌≡◌, ℕ, zero, suc, ◌-◌, List, length, Some, subst, arith}
use Rattle.std.specs.Prelude.{slice_get}
use Rattle.std.proofs.lemmas.Option.{slice_get_within}
use Rattle.puz_board.specs.Boards.{IsBoardOf}
use Rattle.set_sum.specs.Bounds.{IsBounded}
use Rattle.set_sum.specs.Bundles.{ShownBundle, IsBundle}
use Rattle.set_sum.proofs.AnswerLemmas.{all_get}
use Rattle.log_file.specs.LogFiles.{IsLogFile}
use Rattle.log_file.specs.Logs.{IsLog, Lemma, Log}
use Rattle.log_check.specs.GoodLogs.{AreGood, IsGood, IsGoodLog}
use Rattle.log_check.proofs.BoundLemmas.{EarlierBound, first_tree_bounds}

module _ (v : ShownBundle) (is_bundle : IsBundle v) (log : Log) (is_log : IsLog log) (side : log.side ≡ v.side) where
  -- the board of each lemma is one of the bundle's side
  pub board_of : (i : ℕ) (lemma : Lemma) → slice_get log.lemmas i ≡ Some lemma → IsBoardOf v.side lemma.board
  board_of i lemma there = subst (λ n. IsBoardOf n lemma.board) side (all_get (λ l. IsBoardOf log.side l.board) log.lemmas i lemma there is_log.boards)

  -- by those before it
  next_bounds : (i : ℕ) (lemma : Lemma) → slice_get log.lemmas i ≡ Some lemma → IsGood v log i → EarlierBound log.lemmas i → IsBounded lemma.board lemma.bound
  next_bounds i lemma there good earlier =
      let same : good.lemma ≡ lemma = cc (good.there, there) in
      subst (λ l. IsBounded l.board l.bound) same
      (first_tree_bounds v is_bundle log i earlier good.tree good.lemma.board good.lemma.bound (board_of i good.lemma good.there) good.refutes)

  module _ (good : AreGood v log) where
    earlier_bound : (i : ℕ) → EarlierBound log.lemmas i
    earlier_bound zero j lemma low there = absurd (omega arith)
    earlier_bound (suc i) j lemma low there =
        next_bounds j lemma there (good j (slice_get_within log.lemmas j lemma there)) (λ k other less e. earlier_bound i k other (omega arith) e)

    -- where all lemmas are good, no solution of a lemma's board has fewer moves than its bound
    pub good_lemma_bounds : (i : ℕ) (lemma : Lemma) → slice_get log.lemmas i ≡ Some lemma → IsBounded lemma.board lemma.bound
    good_lemma_bounds i lemma there = earlier_bound (suc i) i lemma (omega arith) there

-- no solution of a board has fewer moves than the bound that a good log for it has
pub good_bounds : (v : ShownBundle) → IsBundle v → (log : Log) → IsLog log → (b : List ℕ) (bound : ℕ) → IsGoodLog v log b bound → IsBounded b bound
good_bounds v is_bundle log is_log b bound good =
    let last = good.last in
    let bounds : IsBounded last.board last.bound = good_lemma_bounds v is_bundle log is_log good.is_for.side good.good
    (length log.lemmas - 1) last good.is_for.is_last in
    subst (λ c. IsBounded c bound) good.is_for.board (subst (IsBounded last.board) good.bound_is bounds)

-- by its file
pub good_log_bounds : (v : ShownBundle) → IsBundle v → (log : Log) (file : List ℕ) → IsLogFile log file → (b : List ℕ) (bound : ℕ)
    → IsGoodLog v log b bound → IsBounded b bound
good_log_bounds v is_bundle log file is_file b bound good = good_bounds v is_bundle log is_file.is_log b bound good
