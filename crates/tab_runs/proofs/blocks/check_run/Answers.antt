use Rattle.std.proofs.Common.{◌≡◌, ◌+◌, ◌-◌, ◌*◌, ◌%◌, ◌≤◌, length, get_or, take, sym, ◌∙◌, ap, subst, arith}
use Rattle.tab_runs.proofs.RunAtLemmas.{IsRunAt, run_at}
use Rattle.tab_runs.proofs.blocks.check_run.Goals as goal
use Rattle.tab_runs.proofs.blocks.check_run.Goals.{After-placements_of_run}

-- the run of the first rank
found : (c : After-placements_of_run) → IsRunAt c.args.table.now (take (c.from-index.result - 1) c.as_slice-all_cells.result.now)
    (get_or c.as_slice-all_cells.result.now (c.from-index.result - 1) 0) c.args.ranks.start
    (c.args.ranks.start - c.args.ranks.start % c.placements_of_run.result) c.without-set.result
found c =
    run_at c.args.table.now c.pattern-pattern.ensures.table.pattern c.args.placement.now c.requires.pattern c.cells-placed.ensures.placement
    c.args.ranks.start c.requires.rank c.as_slice-all_cells.result.now (c.as_slice-all_cells.ensures.value ∙ c.cells-placed.ensures.cells)
    (c.from-index.result - 1) c.occupied.result c.without-set.result c.placements_of_run.result
    (let e = c.from-index.ensures ∙ c.size.ensures.size ∙ ap (λ q. length q.tiles) c.pattern-pattern.ensures.pattern in
    let s = c.pattern-pattern.ensures.table.pattern.some in omega arith)
    c.occupied.ensures c.without-set.type_inv c.without-set.ensures.here c.without-set.ensures.others
    (c.placements_of_run.ensures.count ∙ ap (λ q. q.side * q.side + 1 - length q.tiles) c.pattern-pattern.ensures.pattern)

-- the placement's cells but the last, with their set and their first rank, are a run of the table
pub check_part-requires-clause-run_cells : goal.check_part-requires-clause-run_cells
check_part-requires-clause-run_cells c = let at = found (goal.at.check_part-requires-clause-run_cells c).After-placements_of_run in
    record { run = at.run; bits = c.without-set.type_inv; set = at.mask; first = at.is_first }

-- the ranks that are to be checked are some of the run's
pub check_part-requires-clause-ranks : goal.check_part-requires-clause-ranks
check_part-requires-clause-ranks c =
    let t = c.args.table.now in
    let len : c.placements_of_run.result ≡ t.pattern.side * t.pattern.side + 1 - length t.pattern.tiles = c.placements_of_run.ensures.count
    ∙ ap (λ q. q.side * q.side + 1 - length q.tiles) c.pattern-pattern.ensures.pattern in
    let high = subst (λ k. c.args.ranks.end ≤ c.args.ranks.start - c.args.ranks.start % k + k) (sym len) c.requires.run in
    let size = (found (goal.at.check_part-requires-clause-ranks c).After-placements_of_run).run.size in
    record {
      low = omega arith;
      some = c.requires.some;
      high = omega arith;
      count = c.requires.count;
    }
