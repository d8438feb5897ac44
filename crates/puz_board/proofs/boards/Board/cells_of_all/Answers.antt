use Rattle.std.proofs.Common.{◌≡◌, ◌+◌, ◌*◌, ◌<◌, ◌∙◌, ℕ, List, inl, inr, refl, sym, ap, subst, arith, length, slice_index, slice_set}
use Rattle.std.proofs.Common.{get_or-set_same, get_or-set_other, length-set}
use Rattle.std.proofs.lemmas.Bool.{cases_eq}
use Rattle.puz_board.specs.Boards.{IsBoardOf, at, cell_of, side_of}
use Rattle.puz_board.proofs.BoardLemmas.{at-cell_of, cell_of-below, cells_most}
use Rattle.puz_board.proofs.boards.Board.cells_of_all.Goals as goal

-- a cell that is noted under its number leaves those that were noted before
noted : (n : ℕ) (b : List ℕ) → IsBoardOf n b → (found : List ℕ) → length found ≡ 25 → (i : ℕ) → i < n * n
    → ((c : ℕ) → c < i → slice_index found (at b c) ≡ c) → (c : ℕ) → c < i + 1 → slice_index (slice_set found (at b i) i) (at b c) ≡ c
noted n b good found room i inside before c l = elim (cases_eq c i) [
  | inl e ↦ ap (λ x. slice_index (slice_set found (at b i) i) (at b x)) e
      ∙ get_or-set_same found (at b i) i 0 (let below = good.below i inside in let most = cells_most n b good in omega arith) ∙ sym e
  | inr ne ↦ get_or-set_other found (at b i) (at b c) i 0 (λ same. ne (good.distinct c i (omega arith) inside same)) ∙ before c (omega arith)
]

board : (c : goal.After-loop-cell) → IsBoardOf (side_of c.args.self.now) c.numbers-number-items.result.now
board c = subst (IsBoardOf (side_of c.args.self.now)) (sym c.numbers-number-items.ensures.numbers) c.numbers-number-items.ensures.board

-- before the first cell is read, there is room for 25 cells and none must be right yet
pub loop-cell-init : goal.loop-cell-init
loop-cell-init c = (refl, λ k l. omega arith)

-- noting one cell more under its number leaves those noted before
pub loop-cell-preserved : goal.loop-cell-preserved
loop-cell-preserved c =
    let b = c.numbers-number-items.result.now in
    let good : IsBoardOf (side_of c.args.self.now) b =
    subst (IsBoardOf (side_of c.args.self.now)) (sym c.numbers-number-items.ensures.numbers) c.numbers-number-items.ensures.board in
    let size = good.size in (
      length-set _ _ _ ∙ c.loop-cell.invariant.0,
      noted (side_of c.args.self.now) b good c.loop-cell.found c.loop-cell.invariant.0 c.loop-cell.cell
          (omega arith) c.loop-cell.invariant.1,
    )

-- for each number of the board, the cell that was noted is its cell
pub returns-clause-cells : goal.returns-clause-cells
returns-clause-cells c = λ number l.
    let good = board c in
    let n = side_of c.args.self.now in
    let b = c.numbers-number-items.result.now in
    let same : b ≡ c.args.self.now = c.numbers-number-items.ensures.numbers in
    let size = good.size in
    let there : number < n * n = (let s = c.numbers-number-items.ensures.board.size in omega arith) in
    let inside = cell_of-below n b good number there in
    ap (slice_index c.loop-cell.found) (sym (at-cell_of n b good number there)) ∙ c.loop-cell.invariant.1 (cell_of number b) (omega arith)
    ∙ ap (cell_of number) same
