-- Walks: boards that are moved in place, each with a bound: solutions of fewer moves are searched for.
use Rattle.std.specs.Prelude.{◌≡◌, ℕ, ◌<◌, ◌-◌, ◌⊎◌, true, List, Some}
use Rattle.puz_board.specs.Boards.{IsBoardOf, moved}
use Rattle.puz_board.specs.declared.moves.Move.{Move}
use Rattle.set_sum.specs.Bundles.{ShownBundle, SaysAtLeast}

-- what a contract sees of a walk: the bundle whose sets are asked, the board, and the bound
pub record ShownWalk : Type 0 where
  pub bundle : ShownBundle
  pub board : List ℕ
  pub bound : ℕ

-- some set, taken by parity, says that the board has no solution, or none of fewer than r moves
abbrev pub IsCutOff : ShownBundle → List ℕ → ℕ → Type 0
IsCutOff v b r = (set : ℕ) × SaysAtLeast v true set b r

-- no solution of fewer than r moves need be searched for: none has fewer than 0, or a set cuts the board off
abbrev pub IsClosed : ShownBundle → List ℕ → ℕ → Type 0
IsClosed v b r = (r ≡ 0) ⊎ IsCutOff v b r

-- a solution of fewer moves than the bound is still to be searched for
pub record IsOpen (w : ShownWalk) : Type 0 where
  pub board : IsBoardOf w.bundle.side w.board
  pub some : 0 < w.bound
  pub not_cut : ¬ IsCutOff w.bundle w.board w.bound

-- no board that the move leads to is open below one move less
abbrev pub LeadsNowhere : ShownWalk → Move → Type 0
LeadsNowhere w move = (next : List ℕ) → moved w.board move ≡ Some next → IsClosed w.bundle next (w.bound - 1)
