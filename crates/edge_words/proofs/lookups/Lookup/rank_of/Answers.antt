use Rattle.std.proofs.Common.{◌+◌, ◌∙◌, subst, arith}
use Rattle.pat_place.specs.Patterns.{IsPattern}
use Rattle.edge_words.specs.Lookups.{but_last}
use Rattle.edge_words.proofs.LookupLemmas.{rank_fits, rank_is}
use Rattle.edge_words.proofs.lookups.Lookup.rank_of.Goals as goal

-- the first rank of a run and the count of free cells below the last tile's make a number that fits
pub overflow_add-result : goal.overflow_add-result
overflow_add-result c =
    let p = c.args.self.now in
    let cells = but_last p c.args.run.now.cells in
    let pat = subst IsPattern c.self.view_is c.side-side.ensures.pattern in
    let run = c.requires.run in
    let fits = rank_fits p pat cells run.run c.args.last c.requires.last (c.args.run.now.first + c.from.result)
    (rank_is p pat cells run.run c.args.last c.requires.last c.args.run.now.first c.args.run.now.free c.from.result run.first run.free
    (c.from.ensures ∙ c.count_below.ensures.count)) in
    record { fits = omega arith }

-- the number made of a run's first rank and the free cells below the last tile's is the placement's rank
pub returns : goal.returns
returns c =
    let p = c.args.self.now in
    let cells = but_last p c.args.run.now.cells in
    let run = c.requires.run in
    rank_is p (subst IsPattern c.self.view_is c.side-side.ensures.pattern) cells run.run c.args.last c.requires.last c.args.run.now.first
    c.args.run.now.free c.from.result run.first run.free
    (c.from.ensures ∙ c.count_below.ensures.count)
