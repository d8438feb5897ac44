-- A branch bounds the solutions of its board where each child bounds those of the board after its move. It has no child for
-- the move that takes back the arriving one: what follows that move in a solution is a shorter solution of the board before.
use Rattle.std.proofs.Common.{◌≡◌, ℕ, zero, suc, ◌-◌, ◌<◌, ◌≤◌, ◌⊎◌, Bool, true, false, List, [], ◌∷◌, length, Option, Some, None, inl, inr, refl}
use Rattle.std.proofs.Common.{sym, subst, arith}
use Rattle.puz_board.specs.declared.moves.Move.{Move}
use Rattle.puz_board.specs.declared.moves.Move.TheVariants.{Up, Down, Left, Right}
use Rattle.puz_board.specs.Boards.{IsBoardOf, IsGoal, moved}
use Rattle.puz_board.specs.Cells.{reverse_of}
use Rattle.puz_board.specs.Paths.{IsSolution}
use Rattle.puz_board.proofs.MovedLemmas.{FirstMove, first_move, moved-reverse_of}
use Rattle.log_check.specs.Refutations.{is_same_move, takes_back}

-- the move leads to a board that has a solution of fewer than k steps
pub record LeadsToShorter (b : List ℕ) (move : Move) (k : ℕ) : Type 0 where
  pub next : List ℕ
  pub leads : moved b move ≡ Some next
  pub path : List ℕ
  pub solves : IsSolution next path
  pub fewer : length path < k

-- the board before the arriving move has such a solution
abbrev pub HadShorter : List ℕ → Option Move → ℕ → Type 0
HadShorter b None k = ⊥
HadShorter b (Some arriving) k = LeadsToShorter b (reverse_of arriving) k

-- k steps are r or more, or the board before the arriving move has a shorter solution
abbrev pub IsEnough : List ℕ → Option Move → ℕ → ℕ → Type 0
IsEnough b arriving r k = (r ≤ k) ⊎ HadShorter b arriving k

-- each solution of the board has enough steps
abbrev pub Bounds : List ℕ → Option Move → ℕ → Type 0
Bounds b arriving r = (path : List ℕ) → IsSolution b path → IsEnough b arriving r (length path)

-- so does each after this move, where it leads to a board and doesn't take the arriving one back
abbrev pub BoundsAfter : List ℕ → Option Move → ℕ → Move → Type 0
BoundsAfter b arriving r move = (next : List ℕ) → moved b move ≡ Some next → takes_back arriving move ≡ false → Bounds next (Some move) r

HadShorter-more : (b : List ℕ) (arriving : Option Move) (j k : ℕ) → j ≤ k → HadShorter b arriving j → HadShorter b arriving k
HadShorter-more b None j k low had = had
HadShorter-more b (Some arriving) j k low had =
    record { next = had.next; leads = had.leads; path = had.path; solves = had.solves; fewer = let fewer = had.fewer in omega arith }

same_move-is : (m k : Move) → is_same_move m k ≡ true → m ≡ k
same_move-is Up Up e = refl
same_move-is Down Down e = refl
same_move-is Left Left e = refl
same_move-is Right Right e = refl
same_move-is m k e = cc

-- a solution that begins by taking the arriving move back
HadShorter-back : (b rest : List ℕ) (arriving : Option Move) (first : FirstMove b rest) → takes_back arriving first.move ≡ true
    → HadShorter b arriving (suc (length rest))
HadShorter-back b rest None first back = cc
HadShorter-back b rest (Some arriving) first back = record {
  next = first.next;
  leads = subst (λ m. moved b m ≡ Some first.next) (sym (same_move-is (reverse_of arriving) first.move back)) first.leads;
  path = rest;
  solves = first.solves;
  fewer = omega arith;
}

module _ (n : ℕ) (b : List ℕ) (good : IsBoardOf n b) (arriving : Option Move) (r : ℕ) (far : ¬ IsGoal b)
    (each : (move : Move) → BoundsAfter b arriving (r - 1) move) where
  -- a solution of one step and the rest, where all of fewer steps than the rest have enough
  enough_after : (rest : List ℕ) → ((path : List ℕ) → length path < length rest → IsSolution b path → IsEnough b arriving r (length path))
      → FirstMove b rest → IsEnough b arriving r (suc (length rest))
  enough_after rest shorter first = go (takes_back arriving first.move) refl
    where
      -- the board after the step had a shorter one before it: that board is this one
      again : HadShorter first.next (Some first.move) (length rest) → IsEnough b arriving r (suc (length rest))
      again had =
          let same : had.next ≡ b = cc (had.leads, moved-reverse_of n b good first.move first.next first.leads) in
          let fewer : length had.path < length rest = had.fewer in
          elim (shorter had.path fewer (subst (λ c. IsSolution c had.path) same had.solves)) [
            | inl enough ↦ inl (omega arith)
            | inr before ↦ inr (HadShorter-more b arriving (length had.path) (suc (length rest)) (omega arith) before)
          ]

      go : (back : Bool) → takes_back arriving first.move ≡ back → IsEnough b arriving r (suc (length rest))
      go true back = inr (HadShorter-back b rest arriving first back)
      go false on = elim (each first.move first.next first.leads on rest first.solves) [ inl enough ↦ inl (omega arith) | inr had ↦ again had ]

  enough_below : (k : ℕ) (path : List ℕ) → length path < k → IsSolution b path → IsEnough b arriving r (length path)
  enough_below zero path low solves = absurd (omega arith)
  enough_below (suc k) [] low solves = absurd (far solves.1)
  enough_below (suc k) (c ∷ rest) low solves = enough_after rest (λ path fewer is. enough_below k path (omega arith) is) (first_move n b good c rest solves)

  -- a board that isn't a goal has the bound r where each board after a move has the bound r - 1
  pub branch_bounds : Bounds b arriving r
  branch_bounds path solves = enough_below (suc (length path)) path (omega arith) solves
