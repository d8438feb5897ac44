use Rattle.std.proofs.Common.{◌≡◌, ◌*◌, ◌-◌, ◌%◌, ◌<◌, refl, sym, ◌∙◌, subst, arith, lit<, lit≤}
use Rattle.puz_board.specs.Masks.{IsMaskOf}
use Rattle.puz_board.proofs.GrownLemmas.{column_is}
use Rattle.puz_board.proofs.masks.last_column.Goals as goal

-- on side 2, the mask has the last cell of each row and no other cell
pub returns-in-2 : goal.returns-in-2
returns-in-2 c = subst (λ s. IsMaskOf 10 (λ x. (x < s * s) × (x % s ≡ s - 1))) (sym c.in-2.is ∙ c.get.ensures.value) (column_is 2 1 10 (lit≤ tt) (lit< tt) refl)

-- on side 3, the mask has the last cell of each row and no other cell
pub returns-in-3 : goal.returns-in-3
returns-in-3 c = subst (λ s. IsMaskOf 292 (λ x. (x < s * s) × (x % s ≡ s - 1))) (sym c.in-3.is ∙ c.get.ensures.value)
    (column_is 3 2 292 (lit≤ tt) (lit< tt) refl)

-- on side 4, the mask has the last cell of each row and no other cell
pub returns-in-4 : goal.returns-in-4
returns-in-4 c = subst (λ s. IsMaskOf 34952 (λ x. (x < s * s) × (x % s ≡ s - 1))) (sym c.in-4.is ∙ c.get.ensures.value)
    (column_is 4 3 34952 (lit≤ tt) (lit< tt) refl)

-- on side 5, the mask has the last cell of each row and no other cell
pub returns-in_default : goal.returns-in_default
returns-in_default c = subst (λ s. IsMaskOf 17318416 (λ x. (x < s * s) × (x % s ≡ s - 1))) (let five : 5 ≡ c.args.side = omega arith in
    five) (column_is 5 4 17318416 (lit≤ tt) (lit< tt) refl)
