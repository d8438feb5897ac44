use Rattle.std.proofs.Common.{◌≡◌, ◌+◌, ◌-◌, ◌*◌, ◌<◌, ◌≤◌, length, sym, ◌∙◌, ap, ap₂, subst, arith}
use Rattle.std.specs.List.{AllByRecursion}
use Rattle.pat_place.proofs.CountLemmas.{few_placements}
use Rattle.pat_place.proofs.PatternLemmas.{few_tiles}
use Rattle.puz_board.proofs.CellLemmas.{few_cells}
use Rattle.tab_runs.proofs.EntriesLemmas.{AreNumbers, are_numbers, file_small, run_few, run_slice, run_within}
use Rattle.tab_runs.proofs.runs.run_entries.Goals as goal
use Rattle.tab_runs.proofs.runs.run_entries.Goals.{After-rank_among}

-- the cells of a run are few, different and on the board, so they have a rank
pub rank_among-requires : goal.rank_among-requires
rank_among-requires c =
    let t = c.args.table.now in
    let side : c.side.result ≡ t.pattern.side = c.side.ensures.side ∙ ap (λ q. q.side) c.pattern-pattern.ensures.pattern in
    let cells : c.cells-count.result ≡ t.pattern.side * t.pattern.side = c.cells-count.ensures.value ∙ ap₂ (λ m n. m * n) side side in
    let pat = c.pattern-pattern.ensures.table.pattern in
    record {
      small = (let few = few_cells t.pattern.side pat.low pat.high in omega arith);
      few = (let few = few_tiles t.pattern pat in let size = c.requires.run.size in omega arith);
      inside = subst (λ n. AllByRecursion (λ x. x < n) c.args.cells.now) (sym cells) c.requires.run.inside;
      apart = c.requires.run.apart;
    }

are : (c : After-rank_among) → AreNumbers c.args.table.now c.args.cells.now c.rank_among.result (c.from.result - length c.args.cells.now) c.from-width.result
are c = are_numbers c.args.table.now c.pattern-pattern.result c.args.cells.now c.side.result c.cells-count.result c.from.result c.width.result
    c.from-width.result c.rank_among.result
    c.pattern-pattern.ensures.pattern c.side.ensures.side c.cells-count.ensures.value c.from.ensures c.width.ensures c.from-width.ensures c.rank_among.ensures

ends : (c : After-rank_among) → 19 + c.rank_among.result * (c.from.result - length c.args.cells.now) * c.from-width.result
    + (c.from.result - length c.args.cells.now) * c.from-width.result + 1 ≤ length c.file-file.result.now
ends c = run_within c.args.table.now c.file-file.result.now c.args.cells.now c.file-file.ensures c.requires.run c.rank_among.result (are c).is_rank
    (c.from.result - length c.args.cells.now) c.from-width.result (are c)

-- the number of placements before the run fits in a machine word
pub overflow_mul-start : goal.overflow_mul-start
overflow_mul-start c =
    let h = run_few c.args.table.now.pattern c.args.cells.now c.requires.run c.rank_among.result (are c).is_rank in
    let few = few_placements c.args.table.now.pattern c.file-file.ensures.table.pattern in
    let e = ap (λ l. c.rank_among.result * l) (are c).is_run in
    omega arith

-- the number of entries before the run fits in a machine word
pub overflow_mul-start-2 : goal.overflow_mul-start-2
overflow_mul-start-2 c = let h = ends c in let l = file_small c.args.table.now c.file-file.result.now c.file-file.ensures in omega arith

-- the place in the file of the byte before the run's entries fits in a machine word
pub overflow_add-start : goal.overflow_add-start
overflow_add-start c = let h = ends c in let l = file_small c.args.table.now c.file-file.result.now c.file-file.ensures in omega arith

-- the place in the file of the run's last entry fits in a machine word
pub overflow_add-result : goal.overflow_add-result
overflow_add-result c = let h = ends c in let l = file_small c.args.table.now c.file-file.result.now c.file-file.ensures in omega arith

-- the end of the run's bytes in the file fits in a machine word
pub overflow_add-result-2 : goal.overflow_add-result-2
overflow_add-result-2 c = let h = ends c in let l = file_small c.args.table.now c.file-file.result.now c.file-file.ensures in omega arith

-- the slice of the run's entries ends within the file
pub slice_bounds-result-end : goal.slice_bounds-result-end
slice_bounds-result-end c = ends c

-- the slice of the file has the run's entries and one byte before them
pub returns : goal.returns
returns c =
    let are = are_numbers c.args.table.now c.pattern-pattern.result c.args.cells.now c.side.result c.cells-count.result c.from.result c.width.result
    c.from-width.result c.rank_among.result
    c.pattern-pattern.ensures.pattern c.side.ensures.side c.cells-count.ensures.value c.from.ensures c.width.ensures c.from-width.ensures
    c.rank_among.ensures in
    run_slice c.args.table.now c.file-file.result.now c.args.cells.now c.file-file.ensures c.requires.run c.rank_among.result are.is_rank
    (c.from.result - length c.args.cells.now) c.from-width.result are
