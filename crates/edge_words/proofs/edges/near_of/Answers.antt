use Rattle.std.proofs.Common.{◌≡◌, ◌-◌, ◌/◌, length, get_or, true, sym, ◌∙◌, ap, subst, arith}
use Rattle.std.specs.Int.{bit_at}
use Rattle.std.specs.Prelude.{slice_index, slice_set}
use Rattle.std.proofs.lemmas.Bool.{false_from_ne_true}
use Rattle.std.proofs.lemmas.List.{get_or-take}
use Rattle.std.proofs.Math.Seq.{take-set-lt}
use Rattle.puz_board.specs.Cells.{reverse_of, step_of}
use Rattle.puz_board.specs.Masks.{IsMaskOf}
use Rattle.puz_board.proofs.CellLemmas.{few_cells}
use Rattle.pat_place.specs.Patterns.{has}
use Rattle.pat_place.specs.Placements.{IsFree}
use Rattle.tab_runs.specs.RunPlaces.{IsRun}
use Rattle.tab_runs.proofs.MaskLemmas.{mask_moved}
use Rattle.tab_runs.proofs.RunLemmas.{run_moved}
use Rattle.edge_words.specs.Lookups.{but_last}
use Rattle.edge_words.specs.Words.{move_of}
use Rattle.edge_words.proofs.edges.near_of.Goals as goal

-- with the blank's old cell in place of the tile's, the cells of a run are a run again
pub run_of-run-requires-clause-run : goal.run_of-run-requires-clause-run
run_of-run-requires-clause-run c =
    let p = c.args.lookup.now in
    let cells = c.args.run.now.cells in
    let from = c.in_ok-from.from in
    let free : IsFree p.side (but_last p cells) from = (
      c.in_ok-from.ensures.within,
      false_from_ne_true (has (but_last p cells) from) (λ h. let test = c.has_cell.ensures.1 ((c.requires.run.set from).1 h) in
          let no = c.if-has_cell.false in cc),
    ) in
    let moved : but_last p (slice_set cells c.from-tile.result from) ≡ slice_set (but_last p cells) (c.args.number / 4) from =
    ap (λ k. but_last p (slice_set cells k from)) c.from-tile.ensures ∙ take-set-lt (length p.tiles - 1) cells (c.args.number / 4) from c.requires.tile in
    subst (IsRun p) (sym moved) (run_moved p (but_last p cells) (c.args.number / 4) from c.requires.run.run free)

-- the mask with the blank's old cell in place of the tile's is that of the cells after the move
pub run_of-run-requires-clause-set : goal.run_of-run-requires-clause-set
run_of-run-requires-clause-set c =
    let p = c.args.lookup.now in
    let pat = c.pattern-pattern.ensures.is_pattern in
    let cells = c.args.run.now.cells in
    let from = c.in_ok-from.from in
    let run = c.requires.run.run in
    let size = run.size in
    let to : get_or cells c.from-tile.result 0 ≡ get_or (but_last p cells) (c.args.number / 4) 0 = ap (λ k. get_or cells k 0) c.from-tile.ensures
    ∙ sym (get_or-take (length p.tiles - 1) cells (c.args.number / 4) 0 c.requires.tile) in
    let moved : but_last p (slice_set cells c.from-tile.result from) ≡ slice_set (but_last p cells) (c.args.number / 4) from =
    ap (λ k. but_last p (slice_set cells k from)) c.from-tile.ensures ∙ take-set-lt (length p.tiles - 1) cells (c.args.number / 4) from c.requires.tile in
    subst (λ xs. IsMaskOf c.with.result (λ x. has xs x ≡ true)) (sym moved)
    (mask_moved p.side (few_cells p.side pat.low pat.high) (but_last p cells) run.inside run.apart (c.args.number / 4) from
    (let l = c.requires.tile in omega arith) c.args.run.now.set c.without.result c.with.result c.without.type_inv c.requires.run.set
    (subst (λ k. bit_at c.without.result k ≡ 0) to c.without.ensures.here)
    (λ x low ne. c.without.ensures.others x low (λ e. ne (e ∙ to)))
    c.with.ensures.here c.with.ensures.others)

-- where the origin of a tile's move is free, the found run is the one to which the move leads
pub returns : goal.returns
returns c =
    let p = c.args.lookup.now in
    let cells = c.args.run.now.cells in
    let from = c.in_ok-from.from in
    let to : get_or cells c.from-tile.result 0 ≡ slice_index (but_last p cells) (c.args.number / 4) = ap (λ k. get_or cells k 0) c.from-tile.ensures
    ∙ sym (get_or-take (length p.tiles - 1) cells (c.args.number / 4) 0 c.requires.tile) in
    record {
      step =
          ap (λ k. step_of p.side k (reverse_of (move_of c.args.number))) (sym to) ∙
          sym c.origin.ensures.origin ∙
          c.in_ok-from.was {u = tt};
      free = (
        c.in_ok-from.ensures.within,
        false_from_ne_true (has (but_last p cells) from) (λ h. let test = c.has_cell.ensures.1 ((c.requires.run.set from).1 h) in
            let no = c.if-has_cell.false in cc),
      );
      to = to;
      run = c.run_of-run.ensures.run;
      moved =
          ap (but_last p) (c.run_of-run.ensures.cells ∙ ap (λ k. slice_set cells k from) c.from-tile.ensures) ∙
          take-set-lt (length p.tiles - 1) cells (c.args.number / 4) from c.requires.tile;
    }
