use Rattle.std.proofs.Common.{◌≡◌, ◌+◌, ◌<◌, ◌∷◌, [], ◌++◌, length, length-set, get_or, map, refl, take, sym, ◌∙◌, ap, subst, arith}
use Rattle.std.specs.List.{AllByRecursion}
use Rattle.std.proofs.lemmas.List.{length-replicate, map-append, take_all, take_more, take_more_set}
use Rattle.pat_place.specs.Patterns.{ShownPattern}
use Rattle.set_sum.specs.Parts.{IsExactPart, part_pattern}
use Rattle.set_sum.proofs.ListLemmas.{all_more, read_at}
use Rattle.set_sum.proofs.bundles.patterns_of.Goals as goal

-- before the first table, the patterns have their number and none is looked at
pub loop-i-init : goal.loop-i-init
loop-i-init c = record { room = length-replicate {A = ShownPattern} 16 c.pattern-patterns.result; done = refl; exact = tt }

-- with the pattern of one table put in, the first patterns are those of one table more
pub loop-i-preserved : goal.loop-i-preserved
loop-i-preserved c =
    let tables = c.args.tables.now in
    let i = c.loop-i.i in
    let t = c.index-tables-i.result in
    let p = c.pattern.result in
    let patterns = c.loop-i.patterns in
    let at : get_or tables i t ≡ t = read_at tables i t t c.loop-i-test.true c.index-tables-i.is in
    let low : i < length patterns = (let l = c.loop-i-test.true in let few = c.requires.few in let room = c.loop-i.invariant.room in omega arith) in
    let more : map part_pattern (take (i + 1) tables) ≡ map part_pattern (take i tables) ++ p ∷ [] =
    ap (map part_pattern) (take_more tables i t c.loop-i-test.true) ∙
    map-append part_pattern (take i tables) (get_or tables i t ∷ []) ∙
    ap (λ u. map part_pattern (take i tables) ++ part_pattern u ∷ []) at ∙
    ap (λ q. map part_pattern (take i tables) ++ q ∷ []) (sym c.pattern.ensures.pattern) in
    record {
      room = length-set patterns i p ∙ c.loop-i.invariant.room;
      done = take_more_set patterns i p low ∙ ap (λ qs. qs ++ p ∷ []) c.loop-i.invariant.done ∙ sym more;
      exact = all_more IsExactPart tables i t c.loop-i-test.true c.loop-i.invariant.exact (subst IsExactPart (sym at) c.pattern.ensures.exact);
    }

-- at the end, the first patterns are those of all tables
pub returns : goal.returns
returns c =
    let tables = c.args.tables.now in
    let end : c.loop-i.i ≡ length tables = (let past = c.loop-i-test.false in let most = c.loop-i.auto.i-end in omega arith) in
    let all = take_all c.loop-i.i tables c.loop-i-test.false in
    record {
      room = c.loop-i.invariant.room;
      patterns = ap (λ k. take k c.loop-i.patterns) (sym end) ∙ c.loop-i.invariant.done ∙ ap (map part_pattern) all;
      exact = subst (AllByRecursion IsExactPart) all c.loop-i.invariant.exact;
    }
