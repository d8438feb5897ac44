use Rattle.std.proofs.Common.{◌≡◌, ◌+◌, ◌<◌, ◌∷◌, [], ◌++◌, length, take, get_or, true, sym, ◌∙◌, subst, arith}
use Rattle.std.proofs.lemmas.Bool.{false_from_ne_true}
use Rattle.std.proofs.lemmas.List.{get_or-take, length-take-le, take_more}
use Rattle.puz_board.specs.Masks.{IsMaskOf}
use Rattle.pat_place.specs.Patterns.{has}
use Rattle.pat_place.specs.Placements.{IsApart}
use Rattle.pat_place.proofs.ListLemmas.{apart_at, at-has}
use Rattle.tab_runs.proofs.RunLemmas.{apart_last}
use Rattle.edge_words.proofs.LookupLemmas.{mask_with}
use Rattle.edge_words.proofs.fills.set_of.Goals as goal

-- a cell that the mask has already is twice among the cells, so that they aren't different ones
pub returns-then-has_cell : goal.returns-then-has_cell
returns-then-has_cell c apart =
    let cells = c.args.cells.now in
    let i = c.loop-cell.cell-index in
    let x = get_or cells i 0 in
    let low = c.loop-cell-test.true in
    let there = at-has (take i cells) x ((c.loop-cell.invariant.set x).0 (c.has_cell.ensures.0 c.if-has_cell.true)) in
    let long : length (take i cells) ≡ i = length-take-le i cells (omega arith) in
    let before = there.1 in
    let within : there.0 < i = omega arith in
    let same : there.0 ≡ i = apart_at cells apart there.0 i (omega arith) low (sym (get_or-take i cells there.0 0 within) ∙ there.2) in
    omega arith

-- a cell that isn't in the mask is a new one, and the mask with it is that of the cells so far
pub loop-cell-preserved : goal.loop-cell-preserved
loop-cell-preserved c =
    let cells = c.args.cells.now in
    let i = c.loop-cell.cell-index in
    let x = get_or cells i 0 in
    let more : take (i + 1) cells ≡ take i cells ++ x ∷ [] = take_more cells i 0 c.loop-cell-test.true in
    let new = false_from_ne_true (has (take i cells) x) (λ h. let test = c.has_cell.ensures.1 ((c.loop-cell.invariant.set x).1 h) in
    let no = c.if-has_cell.false in cc) in
    record {
      apart = subst IsApart (sym more) (apart_last (take i cells) x c.loop-cell.invariant.apart new);
      set = subst (λ xs. IsMaskOf c.with-set.result (λ y. has xs y ≡ true)) (sym more)
          (mask_with (take i cells) x c.loop-cell.set c.with-set.result c.loop-cell.invariant.set c.with-set.ensures.here c.with-set.ensures.others);
    }
