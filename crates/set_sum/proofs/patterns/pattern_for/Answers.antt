use Rattle.std.proofs.Common.{cond, get_or, sym, ◌∙◌, ap}
use Rattle.puz_board.specs.Transposing.{transposed_tiles}
use Rattle.set_sum.proofs.PatternLemmas.{pattern_at}
use Rattle.set_sum.proofs.patterns.pattern_for.Goals as goal

-- a transposed member has the transposed pattern of its table
pub returns-then-member : goal.returns-then-member
returns-then-member c =
    let p = c.index-patterns-from.result in
    ap (λ q. q.tiles) c.transposed.ensures
    ∙ sym (ap (λ b. cond b (transposed_tiles p.side p.tiles) p.tiles) c.if-member.true)
    ∙ pattern_at c.args.patterns.now c.args.member p c.requires.there
    (c.index-patterns-from.is ∙ ap (λ k. get_or c.args.patterns.now k p) c.from.ensures) c.requires.side.one_side

-- a plain member has the pattern of its table
pub returns-else-member : goal.returns-else-member
returns-else-member c =
    let p = c.index-patterns-from.result in
    sym (ap (λ b. cond b (transposed_tiles p.side p.tiles) p.tiles) c.if-member.false)
    ∙ pattern_at c.args.patterns.now c.args.member p c.requires.there
    (c.index-patterns-from.is ∙ ap (λ k. get_or c.args.patterns.now k p) c.from.ensures) c.requires.side.one_side
