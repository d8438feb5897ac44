use Rattle.std.proofs.Common.{◌-◌, ◌*◌, ◌^◌, ◌<◌, bit_and, Option, Some, None, refl, sym, ◌∙◌, ap, subst}
use Rattle.std.specs.Prelude.{IfNone}
use Rattle.puz_board.specs.Boards.{IsBoardOf, blank, moved, slid}
use Rattle.puz_board.specs.Cells.{Adjacent}
use Rattle.set_sum.specs.Known.{IsKnownOf}
use Rattle.set_sum.specs.Owners.{AreOwners}
use Rattle.set_sum.specs.declared.known.Known.{Known}
use Rattle.set_sum.proofs.KnownLemmas.{known_after}
use Rattle.set_sum.proofs.SlideLemmas.{moved_by, step_adjacent}
use Rattle.set_sum.proofs.sums.Sums.step.Goals as goal

none_so : {X : Type 0} (P : Type 0) → P → (o : Option X) → IfNone o P
none_so P h None = h
none_so P h (Some x) = tt

-- where a move would leave the board, there is no step and nothing has changed
pub returns-in_err-to-clause-none : goal.returns-in_err-to-clause-none
returns-in_err-to-clause-none c =
    let p = c.self.inside.position in
    none_so _ (
      ap (λ w. moved w.board c.args.mv) (sym c.self.view_is)
          ∙ moved_by p.bundle.side p.board c.blank-from.ensures.board c.args.mv None (sym c.in_err-to.ensures),
      refl,
    ) c.from_residual.result

-- the cell to which the move leads is adjacent to the blank's
pub slide-tile-requires : goal.slide-tile-requires
slide-tile-requires c =
    let p = c.self.inside.position in
    step_adjacent p.bundle.side p.board c.blank-from.ensures.board c.args.mv c.in_ok-to.to (sym c.in_ok-to.ensures)

-- the tile that a step moves is one of the board, so its owners may be asked
pub owners-requires : goal.owners-requires
owners-requires c = subst (λ v. c.slide-tile.result < v.side * v.side)
    (sym (c.bundle.ensures ∙ ap (λ w. w.bundle) c.slide-tile.ensures.board)) c.slide-tile.ensures.below

-- what is still known after a step holds of the board after it
pub invariant_of-self : goal.invariant_of-self
invariant_of-self c =
    let s = c.self.inside in
    let p = s.position in
    let v = p.bundle in
    let good = c.blank-from.ensures.board in
    let near = step_adjacent v.side p.board good c.args.mv c.in_ok-to.to (sym c.in_ok-to.ensures) in
    let own : AreOwners v.side v.tables c.slide-tile.result c.owners.result =
    subst (λ u. AreOwners u.side u.tables c.slide-tile.result c.owners.result)
    (c.bundle.ensures ∙ ap (λ w. w.bundle) c.slide-tile.ensures.board) c.owners.ensures in
    let left : Known = record { places = bit_and s.known.places (2 ^ 32 - 1 - c.owners.result); entries = s.known.entries } in
    subst (λ w. IsKnownOf w.bundle w.board left) (sym c.slide-tile.ensures.board)
    (known_after v p.board good c.in_ok-to.to near c.owners.result
    (subst (λ t. AreOwners v.side v.tables t c.owners.result) c.slide-tile.ensures.tile own) c.owners.type_inv s.known c.self.invariant)

-- the step that is answered leads from the board to the one after the move
pub returns-clause-some : goal.returns-clause-some
returns-clause-some c =
    let s = c.self.inside in
    let p = s.position in
    let v = p.bundle in
    let to = c.in_ok-to.to in
    let good = c.blank-from.ensures.board in
    let leads = sym c.in_ok-to.ensures in (
      ap (λ w. moved w.board c.args.mv) (sym c.self.view_is) ∙ moved_by v.side p.board good c.args.mv (Some to) leads
          ∙ ap (λ w. Some w.board) (sym c.slide-tile.ensures.board),
      ap (λ w. w.bundle) c.slide-tile.ensures.board ∙ ap (λ w. w.bundle) c.self.view_is,
      record {
        board = subst (λ w. IsBoardOf w.bundle.side w.board) c.self.view_is good;
        to = to;
        near = subst (λ w. Adjacent w.bundle.side (blank w.board) to) c.self.view_is (step_adjacent v.side p.board good c.args.mv to leads);
        leads = ap (λ w. slid w.board to) (sym c.self.view_is) ∙ ap (λ w. w.board) (sym c.slide-tile.ensures.board);
        from = c.blank-from.ensures.cell ∙ ap (λ w. blank w.board) c.self.view_is;
        known = subst (λ w. IsKnownOf w.bundle w.board s.known) c.self.view_is c.self.invariant;
      },
    )
