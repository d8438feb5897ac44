use Rattle.std.proofs.Common.{◌≡◌, ◌+◌, ◌-◌, ◌<◌, ◌≤◌, inl, inr, sym, ◌∙◌, subst, arith}
use Rattle.pat_place.specs.Placements.{IsPlacement}
use Rattle.pat_place.specs.Ranks.{IsRank}
use Rattle.tab_file.specs.Tables.{placement_count}
use Rattle.tab_rule.proofs.BlockLemmas.{next_rank}
use Rattle.tab_columns.proofs.ColumnLemmas.{set_get, take_get}
use Rattle.tab_columns.proofs.columns.placements_from.Goals as goal

-- with the next placement put in, the list is right for one rank more
pub loop-row-preserved : goal.loop-row-preserved
loop-row-preserved c =
    let p = c.args.pattern.now in
    let old = c.loop-row.placement in
    let new = c.next.new.placement in
    let row = c.loop-row.row in
    let was = c.loop-row.invariant in
    let from : 1 ≤ row = c.loop-row.auto.row in
    let low : row < c.args.count = c.loop-row-test.true in
    let within : c.args.first + c.args.count ≤ placement_count p = c.requires.within in
    let last : (row - 1) + 1 ≡ row = omega arith in
    let next : IsRank p.side new.cells (c.args.first + (row - 1) + 1) =
    next_rank p old new.cells c.next.result (c.args.first + (row - 1)) was.pattern was.placement (was.rank (row - 1) last)
    (omega arith) c.next.ensures.step in
    let at_row : IsRank p.side new.cells (c.args.first + row) =
    subst (IsRank p.side new.cells) (let e : c.args.first + (row - 1) + 1 ≡ c.args.first + row = omega arith in e) next in
    let same : new.pattern ≡ p = c.next.ensures.pattern ∙ was.pattern in
    record {
      pattern = same;
      placement = c.next.ensures.placement;
      rank = λ r e. subst (λ k. IsRank p.side new.cells (c.args.first + k)) (let f : row ≡ r = omega arith in f) at_row;
      before = λ r v l is. elim (set_get c.loop-row.placements row r new v is) [
        | inl here ↦ subst (λ k. (v.pattern ≡ p) × IsPlacement v × IsRank p.side v.cells (c.args.first + k)) (sym here.0) (
            subst (λ u. (u.pattern ≡ p) × IsPlacement u × IsRank p.side u.cells (c.args.first + row)) (sym here.1) (same, c.next.ensures.placement, at_row))
        | inr other ↦ (let ne = other.0 in was.before r v (omega arith) other.1)
      ];
    }

-- the placements of the list have the ranks from the first one on, one by one
pub returns : goal.returns
returns c row v is =
    let there = take_get c.loop-row.placements c.args.count row v is in
    let past : c.args.count ≤ c.loop-row.row = c.loop-row-test.false in
    c.loop-row.invariant.before row v (let l = there.0 in omega arith) there.1
