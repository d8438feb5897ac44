use Rattle.std.proofs.Common.{◌≡◌, ◌+◌, get_or, length, set, inl, inr, sym, ◌∙◌, ap, subst, arith, get_or-set_same, get_or-set_other, length-set}
use Rattle.std.proofs.lemmas.Bool.{cases_eq}
use Rattle.puz_board.specs.Cells.{Adjacent}
use Rattle.puz_board.specs.Masks.{IsMaskOf}
use Rattle.puz_board.proofs.CellLemmas.{few_cells}
use Rattle.tab_runs.specs.Beside.{AreBesideTo}
use Rattle.tab_runs.proofs.beside.beside_all.Goals as goal

-- with the mask of one cell put in, the list is right for one cell more
pub loop-cell-preserved : goal.loop-cell-preserved
loop-cell-preserved c =
    let masks = c.loop-cell.masks in
    let at = c.loop-cell.cell in
    let size : length masks ≡ 25 = c.loop-cell.invariant.size in
    let index : c.from.result ≡ at = c.from.ensures in
    subst (λ i. AreBesideTo c.args.side (at + 1) (set masks i c.beside.result)) (sym index) (record {
      size = length-set masks at c.beside.result ∙ size;
      each = λ d l. elim (cases_eq d at) [
        | inl e ↦ subst (λ m. IsMaskOf m (Adjacent c.args.side d))
            (sym (ap (λ k. get_or (set masks at c.beside.result) k 0) e
            ∙ get_or-set_same masks at c.beside.result 0 (let few =
            few_cells c.args.side c.cells-cell-end.ensures.low c.cells-cell-end.ensures.high in let k = c.loop-cell-test.true in omega arith)))
            (subst (λ x. IsMaskOf c.beside.result (Adjacent c.args.side x)) (sym e) c.beside.ensures)
        | inr ne ↦ subst (λ m. IsMaskOf m (Adjacent c.args.side d)) (sym (get_or-set_other masks at d c.beside.result 0 ne))
            (c.loop-cell.invariant.each d (omega arith))
      ];
    })
