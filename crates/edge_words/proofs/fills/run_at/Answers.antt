use Rattle.std.proofs.Common.{◌≡◌, ◌-◌, ◌*◌, ◌<◌, length, take, sym, ◌∙◌, ap, subst, arith}
use Rattle.std.specs.List.{AllByRecursion}
use Rattle.std.proofs.lemmas.List.{length-take-le}
use Rattle.pat_place.specs.Placements.{IsApart}
use Rattle.pat_place.proofs.PatternLemmas.{few_tiles}
use Rattle.edge_words.specs.Indexes.{index_in}
use Rattle.edge_words.specs.Lookups.{but_last}
use Rattle.edge_words.proofs.IndexLemmas.{index_of-one}
use Rattle.edge_words.proofs.fills.run_at.Goals as goal

-- where the cells at an index aren't different ones, no run has the index
pub returns-in_default : goal.returns-in_default
returns-in_default c cells run at =
    let p = c.args.lookup.now in
    let pat = c.pattern-pattern.ensures.is_pattern in
    let found = c.cells_at-cells.result in
    let same = c.pattern-pattern.ensures.pattern in
    let others : c.from.result - 1 ≡ length p.tiles - 1 = ap (λ k. k - 1) (c.from.ensures ∙ c.size.ensures.size ∙ ap (λ q. length q.tiles) same) in
    let room = c.cells_at-cells.ensures.room in
    let few = few_tiles p pat in
    let long : length (but_last p found) ≡ length p.tiles - 1 = length-take-le (length p.tiles - 1) found (omega arith) in
    let size = run.size in
    let index : index_in p (but_last p found) ≡ c.args.index = subst (λ q. index_in q (but_last q found) ≡ c.args.index) same c.cells_at-cells.ensures.index in
    let inside = subst (λ q. AllByRecursion (λ x. x < q.side * q.side) (but_last q found)) same c.cells_at-cells.ensures.inside in
    let one : cells ≡ but_last p found = index_of-one (p.side * p.side) cells (but_last p found) (omega arith) run.inside inside (at ∙ sym index) in
    c.in_default.ensures (subst (λ k. IsApart (take k found)) (sym others) (subst IsApart one run.apart))

-- different cells taken from an index are those of a run
pub run_of-requires-clause-run : goal.run_of-requires-clause-run
run_of-requires-clause-run c =
    let p = c.args.lookup.now in
    let pat = c.pattern-pattern.ensures.is_pattern in
    let found = c.cells_at-cells.result in
    let same = c.pattern-pattern.ensures.pattern in
    let others : c.from.result - 1 ≡ length p.tiles - 1 = ap (λ k. k - 1) (c.from.ensures ∙ c.size.ensures.size ∙ ap (λ q. length q.tiles) same) in
    let room = c.cells_at-cells.ensures.room in
    let few = few_tiles p pat in
    let some = pat.some in
    let long : length (but_last p found) ≡ length p.tiles - 1 = length-take-le (length p.tiles - 1) found (omega arith) in
    record {
      size = omega arith;
      inside = subst (λ q. AllByRecursion (λ x. x < q.side * q.side) (but_last q found)) same c.cells_at-cells.ensures.inside;
      apart = subst (λ k. IsApart (take k found)) others c.in-Some.ensures.0;
    }
