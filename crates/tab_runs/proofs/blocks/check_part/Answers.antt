use Rattle.std.proofs.Common.{◌≡◌, ◌-◌, ◌*◌, ◌<◌, sym, ◌∙◌, ap, subst, arith}
use Rattle.pat_place.specs.Patterns.{width}
use Rattle.tab_rule.proofs.BlockLemmas.{number_fits}
use Rattle.tab_file.specs.Tables.{slot_count}
use Rattle.tab_runs.specs.Kinds.{TellRegionsOf}
use Rattle.tab_runs.specs.RowTables.{entries_of_run}
use Rattle.tab_runs.proofs.KindLemmas.{entries_same}
use Rattle.tab_runs.proofs.PartLemmas.{bad_between, keep_between, part_few, part_low}
use Rattle.tab_runs.proofs.RowLemmas.{few_entries}
use Rattle.tab_runs.proofs.TileLemmas.{kept_rows}
use Rattle.tab_runs.proofs.blocks.check_part.Goals as goal

-- the run, with the rows of its set and its entries, is one of the table
pub least_near-requires : goal.least_near-requires
least_near-requires c = record {
  run = record {
    run = c.requires.run_cells.run;
    bits = c.requires.run_cells.bits;
    set = c.requires.run_cells.set;
    row_table = c.requires.rows;
    rows = kept_rows c.args.table.now c.args.rows.now c.args.run_cells.now.set c.in-Some.kept.rows.now c.requires.rows c.in-Some.ensures.rows;
    own = c.run_entries.ensures;
  };
}

-- the number of a run's entries before the first of the ranks fits in 64 bits
pub overflow_mul-low : goal.overflow_mul-low
overflow_mul-low c =
    let p = c.args.table.now.pattern in
    let w : c.from-width.result ≡ slot_count p = c.from-width.ensures ∙ c.width.ensures ∙ ap slot_count c.pattern.ensures.pattern in
    let most = part_few p c.args.run_cells.now.cells.now (c.args.ranks.start - c.args.run_cells.now.first) c.from-width.result w
    (let a = c.requires.ranks.high in let b = c.requires.ranks.some in omega arith) in
    let few = few_entries p c.pattern.ensures.table.pattern c.args.run_cells.now.cells.now c.requires.run_cells.run in
    omega arith

-- the number of a run's entries before the end of the ranks fits in 64 bits
pub overflow_mul-high : goal.overflow_mul-high
overflow_mul-high c =
    let p = c.args.table.now.pattern in
    let w : c.from-width.result ≡ slot_count p = c.from-width.ensures ∙ c.width.ensures ∙ ap slot_count c.pattern.ensures.pattern in
    let most = part_few p c.args.run_cells.now.cells.now (c.args.ranks.end - c.args.run_cells.now.first) c.from-width.result w
    (let a = c.requires.ranks.high in omega arith) in
    let few = few_entries p c.pattern.ensures.table.pattern c.args.run_cells.now.cells.now c.requires.run_cells.run in
    omega arith

-- the run, its least near entries, its kinds and the places of the ranks are as the check needs them
pub first_bad_of_kinds-requires : goal.first_bad_of_kinds-requires
first_bad_of_kinds-requires c =
    let t = c.args.table.now in
    let p = t.pattern in
    let cells = c.args.run_cells.now.cells.now in
    let told = c.in-Some.kept.kinds.now in
    let w : c.from-width.result ≡ slot_count p = c.from-width.ensures ∙ c.width.ensures ∙ ap slot_count c.pattern.ensures.pattern in
    record {
      run = record {
        run = c.requires.run_cells.run;
        bits = c.requires.run_cells.bits;
        set = c.requires.run_cells.set;
        row_table = c.requires.rows;
        rows = kept_rows c.args.table.now c.args.rows.now c.args.run_cells.now.set c.in-Some.kept.rows.now c.requires.rows c.in-Some.ensures.rows;
        own = c.run_entries.ensures;
      };
      mins = c.in-Some-least_near.ensures;
      kinds = record {
        told = subst (λ v. TellRegionsOf v.side (width v.side v.tiles) c.args.run_cells.now.set told) c.requires.rows c.in-Some.ensures.told cells
            c.requires.run_cells.set;
        size = c.in-Some.ensures.size ∙ ap (λ v. entries_of_run v.side v.tiles) c.requires.rows ∙ sym (entries_same p cells c.requires.run_cells.run);
        before = record { first = c.args.run_cells.now.first; is_first = c.requires.run_cells.first; counted = ap (λ k. c.args.run_cells.now.first * k) w };
        goal = c.requires.goal;
      };
      places = record {
        low = part_low (c.args.ranks.start - c.args.run_cells.now.first) (c.args.ranks.end - c.args.run_cells.now.first) c.from-width.result
            (let a = c.requires.ranks.some in omega arith);
        high = part_few p cells (c.args.ranks.end - c.args.run_cells.now.first) c.from-width.result w (let a = c.requires.ranks.high in omega arith);
      };
    }

-- the number of all entries before the run fits in 64 bits
pub overflow_mul-before : goal.overflow_mul-before
overflow_mul-before c =
    let p = c.args.table.now.pattern in
    let small : c.from-width.result < 256 = (let e = c.from-width.ensures in let l = c.width.type_inv in omega arith) in
    let fits = number_fits p c.pattern.ensures.table.pattern c.args.run_cells.now.first c.from-width.result 0 (let a = c.requires.ranks.count in
    let b = c.requires.ranks.some in let d = c.requires.ranks.low in omega arith) small (omega arith) in
    omega arith

-- the number of the entry that was found fits in 64 bits
pub overflow_add-result : goal.overflow_add-result
overflow_add-result c =
    let p = c.args.table.now.pattern in
    let w : c.from-width.result ≡ slot_count p = c.from-width.ensures ∙ c.width.ensures ∙ ap slot_count c.pattern.ensures.pattern in
    let small : c.from-width.result < 256 = (let e = c.from-width.ensures in let l = c.width.type_inv in omega arith) in
    let most = part_few p c.args.run_cells.now.cells.now (c.args.ranks.end - c.args.run_cells.now.first) c.from-width.result w
    (let a = c.requires.ranks.high in omega arith) in
    let few = few_entries p c.pattern.ensures.table.pattern c.args.run_cells.now.cells.now c.requires.run_cells.run in
    let place : c.in-Some-first_bad_of_kinds.place < 256 = (let l = c.in-Some-first_bad_of_kinds.ensures.to in omega arith) in
    let fits = number_fits p c.pattern.ensures.table.pattern c.args.run_cells.now.first c.from-width.result c.in-Some-first_bad_of_kinds.place
    (let a = c.requires.ranks.count in let b = c.requires.ranks.some in let d = c.requires.ranks.low in omega arith) small place in
    omega arith

-- the place that was found, behind the entries before the run, is the first bad entry of the ranks
pub returns-in-Some-first_bad_of_kinds : goal.returns-in-Some-first_bad_of_kinds
returns-in-Some-first_bad_of_kinds c =
    bad_between c.args.table.now c.args.run_cells.now.cells.now c.args.run_cells.now.first c.requires.run_cells.first c.args.ranks.start
    c.args.ranks.end c.requires.ranks.low c.requires.ranks.some c.from-width.result
    (c.from-width.ensures ∙ c.width.ensures ∙ ap slot_count c.pattern.ensures.pattern)
    c.in-Some-first_bad_of_kinds.place c.in-Some-first_bad_of_kinds.ensures

-- where no place was found, all entries of the ranks keep the rule
pub returns-in-None : goal.returns-in-None
returns-in-None c =
    keep_between c.args.table.now c.args.run_cells.now.cells.now c.args.run_cells.now.first c.requires.run_cells.first c.args.ranks.start
    c.args.ranks.end c.requires.ranks.low c.requires.ranks.some c.from-width.result
    (c.from-width.ensures ∙ c.width.ensures ∙ ap slot_count c.pattern.ensures.pattern)
    c.in-None.ensures
