use Rattle.std.proofs.Common.{◌≡◌, ◌*◌, ◌<◌, length, Some, sym, ◌∙◌, ap, ap₂, subst, arith}
use Rattle.std.specs.Prelude.{slice_get}
use Rattle.std.specs.List.{AllByRecursion, range_with_len}
use Rattle.pat_place.specs.Placements.{IsApart}
use Rattle.pat_place.specs.Ranks.{IsRank, lists_of}
use Rattle.pat_place.proofs.PatternLemmas.{few_tiles}
use Rattle.pat_place.proofs.RankLemmas.{IsRank-from, IsRank-one, IsRank-below}
use Rattle.puz_board.proofs.CellLemmas.{few_cells}
use Rattle.pat_place.proofs.ranks.rank.Goals as goal

-- a placement has at most 8 cells, different ones of at most 25
pub rank_among-requires : goal.rank_among-requires
rank_among-requires c =
    let p = c.args.placement.now in
    let is = c.as_slice.ensures.placement in
    let side : c.side.result ≡ p.pattern.side = c.side.ensures.side ∙ ap (λ q. q.side) c.pattern.ensures.pattern in
    let cells : c.cells.result ≡ p.pattern.side * p.pattern.side = c.cells.ensures.value ∙ ap₂ (λ m n. m * n) side side in
    record {
      small = (let few = few_cells c.side.result c.cells.ensures.low c.cells.ensures.high in let e = c.cells.ensures.value in omega arith);
      few = (let few = few_tiles p.pattern c.as_slice.ensures.pattern in let size = is.size in let e = ap length c.as_slice.ensures.cells in omega arith);
      inside = subst (λ n. AllByRecursion (λ x. x < n) c.as_slice.result.now) (sym cells)
          (subst (λ xs. AllByRecursion (λ x. x < p.pattern.side * p.pattern.side) xs) (sym c.as_slice.ensures.cells) is.inside);
      apart = subst IsApart (sym c.as_slice.ensures.cells) is.apart;
    }

is_rank : (c : goal.After-rank_among) → IsRank c.args.placement.now.pattern.side c.args.placement.now.cells c.rank_among.result
is_rank c =
    let p = c.args.placement.now in
    let side : c.side.result ≡ p.pattern.side = c.side.ensures.side ∙ ap (λ q. q.side) c.pattern.ensures.pattern in
    let cells : c.cells.result ≡ p.pattern.side * p.pattern.side = c.cells.ensures.value ∙ ap₂ (λ m n. m * n) side side in
    IsRank-from p.pattern.side p.cells c.rank_among.result (
    subst (λ xs. slice_get (lists_of (length xs) (range_with_len 0 (p.pattern.side * p.pattern.side))) c.rank_among.result ≡ Some xs) c.as_slice.ensures.cells (
    subst (λ n. slice_get (lists_of (length c.as_slice.result.now) (range_with_len 0 n)) c.rank_among.result ≡ Some c.as_slice.result.now) cells
    c.rank_among.ensures))

-- the number that is answered is the placement's rank
pub returns-clause-rank : goal.returns-clause-rank
returns-clause-rank c = is_rank c

-- the placement has no other rank than the one that is answered
pub returns-clause-only : goal.returns-clause-only
returns-clause-only c r is = IsRank-one c.args.placement.now.pattern.side c.args.placement.now.cells r c.rank_among.result is (is_rank c)

-- the rank that is answered is below the number of placements
pub returns-clause-below : goal.returns-clause-below
returns-clause-below c = IsRank-below c.args.placement.now.pattern.side c.args.placement.now.cells c.rank_among.result (is_rank c)
