use Rattle.std.proofs.Common.{sym, ◌∙◌, ap}
use Rattle.set_sum.proofs.ListLemmas.{first_side-read}
use Rattle.set_sum.proofs.bundles.first_side.Goals as goal

-- the side of the table that is read first is that of the first table
pub returns : goal.returns
returns c =
    c.side.ensures.side ∙ ap (λ p. p.side) c.pattern.ensures.pattern
    ∙ sym (first_side-read c.args.tables.now c.index-tables-0.result c.requires c.index-tables-0.is)
