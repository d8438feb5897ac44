use Rattle.std.proofs.Common.{◌≡◌, ◌+◌, ◌-◌, ◌*◌, ◌%◌, ◌<◌, length, sym, ◌∙◌, ap, subst, arith}
use Rattle.pat_place.specs.Ranks.{IsRank}
use Rattle.tab_rule.proofs.BlockLemmas.{first_fits, keeps_all, next_rank}
use Rattle.std.specs.Prelude.{MatchOption}
use Rattle.tab_rule.specs.Blocks.{first_of_block}
use Rattle.tab_file.specs.Tables.{placement_count, slot_count}
use Rattle.tab_runs.specs.Parts.{EntriesKeepRule, IsFirstBadEntry}
use Rattle.tab_runs.proofs.PartLemmas.{block_bad, entries_more}
use Rattle.tab_runs.proofs.blocks.check_runs.Goals as goal

-- the rank of the first placement of a block that is checked by runs fits in 64 bits
pub overflow_mul-first : goal.overflow_mul-first
overflow_mul-first c = let fits = first_fits c.args.table.now.pattern c.pattern-pattern.ensures.table.pattern c.args.block c.requires.block in omega arith

-- a block of the table begins at the rank of some placement
pub unrank-placement-requires : goal.unrank-placement-requires
unrank-placement-requires c =
    let p = c.args.table.now.pattern in
    let low : c.args.block * 256 < placement_count p = (let b = c.requires.block in omega arith) in
    subst (λ q. c.args.block * 256 < placement_count q) (sym c.pattern-pattern.ensures.pattern) low

-- at the block's first placement, the entries before it in the block, of which there are none, keep the rule
pub runs-init : goal.runs-init
runs-init c =
    record {
      begun = omega arith;
      kept = λ number from to. absurd (omega arith);
      pattern = c.unrank-placement.ensures.pattern ∙ c.pattern-pattern.ensures.pattern;
      placement = c.unrank-placement.ensures.placement;
      rank = λ l. subst (λ q. IsRank q.side c.unrank-placement.result.cells (c.args.block * 256)) c.pattern-pattern.ensures.pattern
          c.unrank-placement.ensures.rank;
    }

-- a run that keeps the rule adds its entries to those that do, and the next run's first placement is held
pub runs-preserved : goal.runs-preserved
runs-preserved c =
    let t = c.args.table.now in
    let low = c.runs.from * slot_count t.pattern in
    let high = c.min-to.result * slot_count t.pattern in
    record {
      begun = (let m = c.min-to.ensures in let s = c.placements_of_run-run.ensures.some in let b = c.runs.invariant.begun in
          let l = c.runs-test.true in omega arith);
      kept = entries_more t (first_of_block t.pattern c.args.block) low high c.runs.invariant.kept
          (subst (λ f. MatchOption f (EntriesKeepRule t low high) (IsFirstBadEntry t low high)) c.in_default.is c.in_ok-number.ensures);
      pattern = c.next.ensures.pattern ∙ c.last_of_run-placement.ensures.pattern ∙ c.pattern-pattern.ensures.pattern;
      placement = c.next.ensures.placement;
      rank = λ l.
          let from = c.runs.from in
          let p = t.pattern in
          let view = c.last_of_run-placement.result in
          let same = c.pattern-pattern.ensures.pattern in
          let was = subst (λ q. IsRank q.side c.runs.placement.cells from) (sym same) (c.runs.invariant.rank c.runs-test.true) in
          let last : IsRank p.side view.cells (from - from % (p.side * p.side + 1 - length p.tiles) + (p.side * p.side - length p.tiles)) =
          subst (λ q. IsRank q.side view.cells (from - from % (q.side * q.side + 1 - length q.tiles) + (q.side * q.side - length q.tiles))) same
          (c.last_of_run-placement.ensures.rank from was) in
          let run : c.placements_of_run-run.result ≡ p.side * p.side + 1 - length p.tiles = c.placements_of_run-run.ensures.count
          ∙ ap (λ q. q.side * q.side + 1 - length q.tiles) same in
          let some = c.placements_of_run-run.ensures.some in
          let rest : from % c.placements_of_run-run.result ≡ from % (p.side * p.side + 1 - length p.tiles) = ap (λ k. from % k) run in
          let m = c.min-to.ensures in
          let to : from - from % (p.side * p.side + 1 - length p.tiles) + (p.side * p.side - length p.tiles) + 1 ≡ c.min-to.result = omega arith in
          let count : c.count.result ≡ placement_count p = c.count.ensures.count ∙ ap placement_count same in
          let end = c.min-end.ensures in
          subst (IsRank p.side c.next.new.placement.cells) to
          (next_rank p view c.next.new.placement.cells c.next.result
          (from - from % (p.side * p.side + 1 - length p.tiles) + (p.side * p.side - length p.tiles))
          (c.last_of_run-placement.ensures.pattern ∙ same) c.last_of_run-placement.ensures.placement last (omega arith) c.next.ensures.step);
    }

-- the first bad entry of a run, behind runs that keep the rule, is the least bad one of the block
pub returns-in-Some : goal.returns-in-Some
returns-in-Some c =
    let t = c.args.table.now in
    let low = c.runs.from * slot_count t.pattern in
    let high = c.min-to.result * slot_count t.pattern in
    block_bad t c.args.block c.runs.from c.min-to.result c.in-Some.number c.runs.invariant.begun (let m = c.min-to.ensures in
    let e = c.min-end.ensures in omega arith) c.runs.invariant.kept
    (subst (λ f. MatchOption f (EntriesKeepRule t low high) (IsFirstBadEntry t low high)) c.in-Some.is c.in_ok-number.ensures)

-- where all runs up to the block's end keep the rule, the block does
pub returns : goal.returns
returns c =
    let t = c.args.table.now in
    let count : c.count.result ≡ placement_count t.pattern = c.count.ensures.count ∙ ap placement_count c.pattern-pattern.ensures.pattern in
    let end = c.min-end.ensures in
    let past = c.runs-test.false in
    keeps_all t c.args.block c.runs.from (λ r l k. omega arith) c.runs.invariant.kept
