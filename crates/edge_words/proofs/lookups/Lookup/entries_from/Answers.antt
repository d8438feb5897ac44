use Rattle.std.proofs.Common.{◌≡◌, ◌+◌, ◌-◌, ◌*◌, length, ◌∙◌, ap, ap₂, subst, arith}
use Rattle.pat_place.specs.Patterns.{IsPattern}
use Rattle.tab_file.specs.Tables.{slot_count}
use Rattle.tab_rule.specs.ExactTables.{IsExactTable}
use Rattle.tab_runs.specs.RunPlaces.{run_length}
use Rattle.edge_words.specs.Lookups.{but_last}
use Rattle.edge_words.proofs.LookupLemmas.{run_end, run_entries, run_small}
use Rattle.edge_words.proofs.lookups.Lookup.entries_from.Goals as goal

-- the first rank of a run times the entries of a placement, where its entries begin, fits
pub overflow_mul-start : goal.overflow_mul-start
overflow_mul-start c =
    let p = c.args.self.now in
    let pat = subst IsPattern c.self.view_is c.side.ensures.pattern in
    let exact = subst (λ q. IsExactTable (record { pattern = q; entries = c.self.inside.entries.now })) c.self.view_is c.self.invariant.exact in
    let small = run_small p pat (but_last p c.args.cells.now) c.requires.run c.args.first c.requires.first c.self.inside.entries.now exact in
    let start : c.args.first * c.self.inside.width ≡ c.args.first * slot_count p =
    ap (λ w. c.args.first * w) (c.self.invariant.width ∙ ap slot_count c.self.view_is) in
    record { fits = omega arith }

-- the place where the entries of a run end, reckoned from the one where they begin, fits
pub overflow_add-result : goal.overflow_add-result
overflow_add-result c =
    let p = c.args.self.now in
    let pat = subst IsPattern c.self.view_is c.side.ensures.pattern in
    let exact = subst (λ q. IsExactTable (record { pattern = q; entries = c.self.inside.entries.now })) c.self.view_is c.self.invariant.exact in
    let small = run_small p pat (but_last p c.args.cells.now) c.requires.run c.args.first c.requires.first c.self.inside.entries.now exact in
    let width = c.self.invariant.width ∙ ap slot_count c.self.view_is in
    let start : c.args.first * c.self.inside.width ≡ c.args.first * slot_count p = ap (λ w. c.args.first * w) width in
    let side : c.side.result ≡ p.side = c.side.ensures.side ∙ ap (λ q. q.side) c.self.view_is in
    let count : c.from-count.result ≡ p.side * p.side = c.from-count.ensures ∙ c.cells.ensures.value ∙ ap₂ (λ m n. m * n) side side in
    let size : c.from.result ≡ length p.tiles = c.from.ensures ∙ c.size.ensures.size ∙ ap (λ q. length q.tiles) c.self.view_is in
    let long = c.requires.run.size in
    let placements : c.from-count.result + 1 - c.from.result ≡ run_length p.side (but_last p c.args.cells.now) = omega arith in
    let many : (c.from-count.result + 1 - c.from.result) * c.self.inside.width ≡ run_length p.side (but_last p c.args.cells.now) * slot_count p =
    ap₂ (λ a b. a * b) placements width in
    record { fits = omega arith }

-- the slice from a run's first entry to its last one is within the entries of the lookup
pub slice_bounds-result-end : goal.slice_bounds-result-end
slice_bounds-result-end c =
    let p = c.args.self.now in
    let pat = subst IsPattern c.self.view_is c.side.ensures.pattern in
    let exact = subst (λ q. IsExactTable (record { pattern = q; entries = c.self.inside.entries.now })) c.self.view_is c.self.invariant.exact in
    let end = run_end p pat (but_last p c.args.cells.now) c.requires.run c.args.first c.requires.first c.self.inside.entries.now exact in
    let width = c.self.invariant.width ∙ ap slot_count c.self.view_is in
    let start : c.args.first * c.self.inside.width ≡ c.args.first * slot_count p = ap (λ w. c.args.first * w) width in
    let side : c.side.result ≡ p.side = c.side.ensures.side ∙ ap (λ q. q.side) c.self.view_is in
    let count : c.from-count.result ≡ p.side * p.side = c.from-count.ensures ∙ c.cells.ensures.value ∙ ap₂ (λ m n. m * n) side side in
    let size : c.from.result ≡ length p.tiles = c.from.ensures ∙ c.size.ensures.size ∙ ap (λ q. length q.tiles) c.self.view_is in
    let long = c.requires.run.size in
    let placements : c.from-count.result + 1 - c.from.result ≡ run_length p.side (but_last p c.args.cells.now) = omega arith in
    let many : (c.from-count.result + 1 - c.from.result) * c.self.inside.width ≡ run_length p.side (but_last p c.args.cells.now) * slot_count p =
    ap₂ (λ a b. a * b) placements width in
    omega arith

-- the slice that is cut from the table has the entries of the run, slot by slot
pub returns : goal.returns
returns c =
    let p = c.args.self.now in
    let pat = subst IsPattern c.self.view_is c.side.ensures.pattern in
    let exact = subst (λ q. IsExactTable (record { pattern = q; entries = c.self.inside.entries.now })) c.self.view_is c.self.invariant.exact in
    let width = c.self.invariant.width ∙ ap slot_count c.self.view_is in
    let start : c.args.first * c.self.inside.width ≡ c.args.first * slot_count p = ap (λ w. c.args.first * w) width in
    let side : c.side.result ≡ p.side = c.side.ensures.side ∙ ap (λ q. q.side) c.self.view_is in
    let count : c.from-count.result ≡ p.side * p.side = c.from-count.ensures ∙ c.cells.ensures.value ∙ ap₂ (λ m n. m * n) side side in
    let size : c.from.result ≡ length p.tiles = c.from.ensures ∙ c.size.ensures.size ∙ ap (λ q. length q.tiles) c.self.view_is in
    let long = c.requires.run.size in
    let placements : c.from-count.result + 1 - c.from.result ≡ run_length p.side (but_last p c.args.cells.now) = omega arith in
    let part = (c.from-count.result + 1 - c.from.result) * c.self.inside.width in
    let many : part ≡ run_length p.side (but_last p c.args.cells.now) * slot_count p = ap₂ (λ a b. a * b) placements width in
    let all : c.args.first * c.self.inside.width + part - c.args.first * c.self.inside.width ≡ part = omega arith in
    run_entries p pat (but_last p c.args.cells.now) c.requires.run c.args.first c.requires.first c.self.inside.entries.now exact
    (c.args.first * c.self.inside.width) (c.args.first * c.self.inside.width + part - c.args.first * c.self.inside.width) start (all ∙ many)
