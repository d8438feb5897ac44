use Rattle.std.proofs.Common.{◌*◌, ◌<◌, sym, ◌∙◌, ap, subst}
use Rattle.puz_board.specs.Boards.{at}
use Rattle.set_sum.specs.Owners.{AreOwners}
use Rattle.set_sum.specs.Known.{IsKnownOf}
use Rattle.set_sum.specs.ShownSums.{ShownSums}
use Rattle.set_sum.specs.Steps.{IsStepFrom}
use Rattle.set_sum.proofs.SlideLemmas.{step_back, step_known, step_near}
use Rattle.set_sum.proofs.sums.Sums.take_back.Goals as goal

-- the cell from which the step came is adjacent to the blank's
pub slide-tile-requires : goal.slide-tile-requires
slide-tile-requires c = let p = c.self.inside.position in
    step_near p.bundle c.requires.0 p.board c.args.step.now
    (subst (λ w. IsStepFrom w.bundle c.requires.0 w.board c.args.step.now) (sym c.self.view_is) c.requires.1)

-- the tile that is moved back is one of the board, so its owners may be asked
pub owners-requires : goal.owners-requires
owners-requires c = subst (λ v. c.slide-tile.result < v.side * v.side)
    (sym (c.bundle.ensures ∙ ap (λ w. w.bundle) c.slide-tile.ensures.board)) c.slide-tile.ensures.below

-- what is known before a step and what still holds of it are known after taking it back
pub invariant_of-self : goal.invariant_of-self
invariant_of-self c =
    let s = c.self.inside in
    let p = s.position in
    let v = p.bundle in
    let step = c.args.step.now in
    let from = subst (λ w. IsStepFrom w.bundle c.requires.0 w.board step) (sym c.self.view_is) c.requires.1 in
    let own : AreOwners v.side v.tables (at p.board step.from) c.owners.result =
    subst (λ t. AreOwners v.side v.tables t c.owners.result) c.slide-tile.ensures.tile
    (subst (λ u. AreOwners u.side u.tables c.slide-tile.result c.owners.result)
    (c.bundle.ensures ∙ ap (λ w. w.bundle) c.slide-tile.ensures.board) c.owners.ensures) in
    let back = c.slide-tile.ensures.board ∙ ap {B = ShownSums} (λ x. record { bundle = v; board = x }) (step_back v c.requires.0 p.board step from) in
    subst (λ w. IsKnownOf w.bundle w.board c.joined-self-inside.result) (sym back)
    (step_known v c.requires.0 p.board step from c.owners.result own c.owners.type_inv s.known c.joined-self-inside.result c.self.invariant
    c.joined-self-inside.ensures)

-- taking a step back leaves the board from which it came
pub returns : goal.returns
returns c b is =
    let s = c.self.inside in
    let p = s.position in
    let there = subst (λ w. IsStepFrom w.bundle b w.board c.args.step.now) (sym c.self.view_is) is in
    c.slide-tile.ensures.board ∙ ap {B = ShownSums} (λ x. record { bundle = p.bundle; board = x }) (step_back p.bundle b p.board c.args.step.now there) ∙
    ap {B = ShownSums} (λ w. record { bundle = w.bundle; board = b }) c.self.view_is
