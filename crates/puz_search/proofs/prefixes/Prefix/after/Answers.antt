use Rattle.std.proofs.Common.{arith}
use Rattle.puz_search.proofs.PrefixLemmas.{rank_fits, rank_small}
use Rattle.puz_search.proofs.prefixes.Prefix.after.Goals as goal

-- four times the rank of the letters read so far fits into 64 bits
pub overflow_mul-result : goal.overflow_mul-result
overflow_mul-result c = let x = c.args.self.now in let low = rank_fits x.ahead x.rank x.small in omega arith

-- four times the rank of the letters read so far, and the rank of one more, fits into 64 bits
pub overflow_add-result : goal.overflow_add-result
overflow_add-result c =
    let x = c.args.self.now in
    let low = rank_fits x.ahead x.rank x.small in
    let few = c.rank_of_move.ensures.few in
    let same = c.from.ensures in
    omega arith

-- after one more letter, the rank of those read is small for how many are to come
pub invariant_of-result-clause-small : goal.invariant_of-result-clause-small
invariant_of-result-clause-small c =
    let x = c.args.self.now in
    let few = c.rank_of_move.ensures.few in
    let same = c.from.ensures in
    rank_small x.ahead x.rank c.from.result c.if-self-eq0.false x.few x.small (omega arith)
