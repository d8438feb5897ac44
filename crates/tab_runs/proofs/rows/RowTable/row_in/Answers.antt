use Rattle.std.proofs.Common.{◌≡◌, ◌+◌, ◌*◌, ◌≤◌, length, sym, ◌∙◌, ap, subst, arith}
use Rattle.tab_runs.specs.Rows.{row_length}
use Rattle.tab_runs.proofs.TableRowLemmas.{part_end}
use Rattle.tab_runs.proofs.rows.RowTable.row_in.Goals as goal

-- the row of a cell of the board ends within the rows of all cells
pub slice_bounds-result-end : goal.slice_bounds-result-end
slice_bounds-result-end c =
    let n = c.args.self.now.side in
    let len : c.self.inside.listed ≡ row_length n c.args.self.now.tiles = c.self.invariant.short ∙ ap (λ v. row_length v.side v.tiles) c.self.view_is in
    let end = part_end (row_length n c.args.self.now.tiles) (n * n) c.args.cell c.requires.cell in
    subst (λ x. x * c.self.inside.listed + c.self.inside.listed ≤ length c.args.rows.now) (sym c.from.ensures)
    (subst (λ k. c.args.cell * k + k ≤ length c.args.rows.now) (sym len) (let s = c.requires.size in omega arith))
