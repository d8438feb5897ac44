-- The cells of numbers on a transposed board.
use Rattle.std.proofs.Common.{◌≡◌, ℕ, ◌+◌, ◌*◌, ◌<◌, ◌≤◌, ◌⊎◌, true, false, cond, List, length, inl, inr, sym, ◌∙◌, ap, subst, arith, slice_index}
use Rattle.std.proofs.Common.{slice_set, get_or-set_same, get_or-set_other}
use Rattle.std.proofs.lemmas.Bool.{cases_eq}
use Rattle.puz_board.specs.Boards.{IsBoardOf, cell_of}
use Rattle.puz_board.specs.Transposing.{transposed, transposed_cell}
use Rattle.puz_board.proofs.BoardLemmas.{cell_of-below}
use Rattle.puz_board.proofs.TransposeLemmas.{IsBoardOf-transposed, cell_below, cell_of-transposed, cell_twice}
use Rattle.tab_rule.specs.Counts.{AreCellsOf}
use Rattle.set_sum.specs.Members.{board_for}
use Rattle.set_sum.specs.declared.members.Member.{Member}

-- the mirrored cell of a number
abbrev pub mirrored_cell : ℕ → List ℕ → ℕ → ℕ
mirrored_cell n found t = transposed_cell n (slice_index found (transposed_cell n t))

-- a cell that is noted leaves those that were noted before
pub noted : (f : ℕ → ℕ) (cells : List ℕ) → length cells ≡ 25 → (i j x : ℕ) → j ≡ i → i < 25 → x ≡ f i → ((t : ℕ) → t < i → slice_index cells t ≡ f t)
    → (t : ℕ) → t < i + 1 → slice_index (slice_set cells j x) t ≡ f t
noted f cells room i j x place inside is before t l = elim (cases_eq t j) [
  | inl e ↦ ap (slice_index (slice_set cells j x)) e ∙ get_or-set_same cells j x 0 (omega arith) ∙ is ∙ ap f (sym (e ∙ place))
  | inr ne ↦ get_or-set_other cells j t x 0 ne ∙ before t (omega arith)
]

module _ (n : ℕ) (b found : List ℕ) (good : IsBoardOf n b) (are : AreCellsOf found b) where
  there : (t : ℕ) → t < n * n → transposed_cell n t < length b
  there t l = subst (λ k. transposed_cell n t < k) (sym good.size) (cell_below n good.low good.high t l)

  -- the cell that was found for a transposed number is a cell of the board
  pub found_below : (t : ℕ) → t < n * n → slice_index found (transposed_cell n t) < n * n
  found_below t l = subst (λ k. k < n * n) (sym (are (transposed_cell n t) (there t l)))
      (cell_of-below n b good (transposed_cell n t) (cell_below n good.low good.high t l))

  -- it is the cell of the number on the transposed board
  pub mirrored_is : (t : ℕ) → t < n * n → mirrored_cell n found t ≡ cell_of t (transposed b)
  mirrored_is t l =
      ap (transposed_cell n) (are (transposed_cell n t) (there t l)) ∙
      sym (cell_of-transposed n b good (transposed_cell n t) (cell_below n good.low good.high t l)) ∙
      ap (λ u. cell_of u (transposed b)) (cell_twice n good.low good.high t l)

  -- cells that are all mirrored ones are those of the numbers on the transposed board
  pub mirrored_all : (cells : List ℕ) (k : ℕ) → n * n ≤ k → ((t : ℕ) → t < k → slice_index cells t ≡ mirrored_cell n found t) → AreCellsOf cells (transposed b)
  mirrored_all cells k all each t l =
      let turned = IsBoardOf-transposed n b good in
      let size = turned.size in
      each t (omega arith) ∙ mirrored_is t (omega arith)

-- the cells in which a member looks are those of the board that it looks up
pub cells_for : (m : Member) (b found mirrored cells : List ℕ) → AreCellsOf found b → (m.is_transposed ≡ true → AreCellsOf mirrored (transposed b))
    → ((m.is_transposed ≡ true) × (cells ≡ mirrored)) ⊎ ((m.is_transposed ≡ false) × (cells ≡ found)) → AreCellsOf cells (board_for m b)
cells_for m b found mirrored cells plain turned is = elim is [
  | inl one ↦ subst (λ s. AreCellsOf cells (cond s (transposed b) b)) (sym one.0) (subst (λ k. AreCellsOf k (transposed b)) (sym one.1) (turned one.0))
  | inr other ↦ subst (λ s. AreCellsOf cells (cond s (transposed b) b)) (sym other.0) (subst (λ k. AreCellsOf k b) (sym other.1) plain)
]
