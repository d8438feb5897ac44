use Rattle.std.proofs.Common.{◌≡◌, ℕ, Option, Some, None, refl, sym, ◌∙◌}
use Rattle.std.specs.Prelude.{IfSome}
use Rattle.puz_board.specs.Cells.{IsBeside}
use Rattle.puz_board.proofs.CellLemmas.{beside-step_of, step_of-beside}
use Rattle.puz_board.proofs.moves.step.Goals as goal

IfSome-from : (o : Option ℕ) (P : ℕ → Type 0) → ((x : ℕ) → o ≡ Some x → P x) → IfSome o P
IfSome-from None P h = tt
IfSome-from (Some x) P h = h x refl

-- the cell to which a move leads is beside the one it leaves, in its row or its column
pub returns-clause-beside : goal.returns-clause-beside
returns-clause-beside c =
    let way = c.destination.ensures in
    IfSome-from c.destination.result (IsBeside c.args.side c.args.cell)
    (λ to e. step_of-beside c.args.side c.args.cell c.args.mv to way.low way.high c.requires (sym way.cell ∙ e))

-- each cell beside another in its row or column is adjacent to it by some move
pub returns-clause-reaches_all : goal.returns-clause-reaches_all
returns-clause-reaches_all c to l beside =
    let way = c.destination.ensures in
    let move = beside-step_of c.args.side c.args.cell to way.low way.high c.requires l beside in
    (l, move.0, move.1)
