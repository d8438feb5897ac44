use Rattle.std.proofs.Common.{◌≡◌, ◌<◌, length, Some, get_or, refl, sym, ◌∙◌, ap, subst, arith}
use Rattle.puz_board.specs.Cells.{step_of}
use Rattle.tab_columns.specs.Moves.{IsTileIn}
use Rattle.tab_columns.proofs.TowardsLemmas.{found_one, none_found, none_off}
use Rattle.tab_columns.proofs.neighbours.entry_after_step.Goals as goal

-- where the tile's move leads off the board, there is no entry after it
pub returns-in_err-to : goal.returns-in_err-to
returns-in_err-to c mv is =
    let t = c.args.table.now in
    let p = c.args.placement.now in
    let tile : IsTileIn t p c.args.index (get_or p.cells c.args.index 0) = (
      c.requires.table,
      c.requires.pattern,
      c.requires.placement,
      (let size : length p.cells ≡ length t.pattern.tiles = c.requires.placement.size ∙ ap (λ q. length q.tiles) c.requires.pattern in
          let l = c.requires.index in omega arith),
      refl,
    ) in
    rw c.from_residual.ensures (none_off t p c.args.index (get_or p.cells c.args.index 0) tile mv (sym is ∙ c.in_err-to.was))

-- where the cell that is entered is in no region, there is no entry after the move
pub returns-in_err-slot : goal.returns-in_err-slot
returns-in_err-slot c mv is =
    let t = c.args.table.now in
    let p = c.args.placement.now in
    let tile : IsTileIn t p c.args.index (get_or p.cells c.args.index 0) = (
      c.requires.table,
      c.requires.pattern,
      c.requires.placement,
      (let size : length p.cells ≡ length t.pattern.tiles = c.requires.placement.size ∙ ap (λ q. length q.tiles) c.requires.pattern in
          let l = c.requires.index in omega arith),
      refl,
    ) in
    let steps : step_of t.pattern.side (get_or p.cells c.args.index 0) mv ≡ Some c.in_ok-to.to = sym is ∙ c.in_ok-to.was in
    rw c.from_residual-in_err-slot.ensures (
    none_found t p c.args.index (get_or p.cells c.args.index 0) tile mv (λ j. get_or c.args.regions.now j 0) c.requires.regions c.in_ok-to.to steps
    (λ j l. c.in_err-slot.ensures j (subst (λ w. j < w) (sym c.requires.size) l)))

-- the entry after the move is found for the slot whose region the tile enters
pub returns : goal.returns
returns c mv is =
    let t = c.args.table.now in
    let p = c.args.placement.now in
    let tile : IsTileIn t p c.args.index (get_or p.cells c.args.index 0) = (
      c.requires.table,
      c.requires.pattern,
      c.requires.placement,
      (let size : length p.cells ≡ length t.pattern.tiles = c.requires.placement.size ∙ ap (λ q. length q.tiles) c.requires.pattern in
          let l = c.requires.index in omega arith),
      refl,
    ) in
    let steps : step_of t.pattern.side (get_or p.cells c.args.index 0) mv ≡ Some c.in_ok-to.to = sym is ∙ c.in_ok-to.was in
    found_one t p c.args.index (get_or p.cells c.args.index 0) tile mv (λ j. get_or c.args.regions.now j 0) c.requires.regions c.in_ok-to.to steps
    c.in_ok-slot.slot c.entry_after.result (subst (λ w. c.in_ok-slot.slot < w) c.requires.size c.in_ok-slot.ensures.low) c.in_ok-slot.ensures.here
    c.entry_after.type_inv c.entry_after.ensures
