use Rattle.std.proofs.Common.{◌≡◌, ◌*◌, ◌<◌, get_or, sym, ap, subst}
use Rattle.puz_board.specs.Cells.{Adjacent}
use Rattle.puz_board.specs.Masks.{IsMaskOf}
use Rattle.tab_runs.proofs.rows.RowTable.beside.Goals as goal

-- the mask that is kept for a cell has the cells beside it
pub returns : goal.returns
returns c =
    let r = c.self.inside in
    let side : r.side ≡ c.args.self.now.side = ap (λ v. v.side) c.self.view_is in
    let low : c.args.cell < r.side * r.side = subst (λ n. c.args.cell < n * n) (sym side) c.requires in
    let is : IsMaskOf (get_or r.beside c.from.result 0) (Adjacent r.side c.args.cell) =
    subst (λ i. IsMaskOf (get_or r.beside i 0) (Adjacent r.side c.args.cell)) (sym c.from.ensures) (c.self.invariant.beside.each c.args.cell low) in
    subst (λ n. IsMaskOf (get_or r.beside c.from.result 0) (Adjacent n c.args.cell)) side is
