use Rattle.std.proofs.Common.{◌≡◌, ◌-◌, ◌*◌, ◌^◌, ◌<◌, bit_and, length, take, Some, sym, ◌∙◌, ap, ap₂, subst, arith}
use Rattle.std.specs.Prelude.{slice_get}
use Rattle.std.specs.List.{range_with_len}
use Rattle.puz_board.specs.Masks.{IsMaskOf}
use Rattle.puz_board.proofs.CellLemmas.{few_cells}
use Rattle.pat_place.specs.Patterns.{IsPattern}
use Rattle.pat_place.specs.Placements.{IsFree}
use Rattle.pat_place.specs.Ranks.{IsRank, lists_of}
use Rattle.pat_place.proofs.RankLemmas.{IsRank-from}
use Rattle.pat_place.proofs.SlotSteps.{free_is}
use Rattle.edge_words.specs.Lookups.{but_last}
use Rattle.edge_words.proofs.LookupLemmas.{first_rank, run_fits}
use Rattle.edge_words.proofs.lookups.Lookup.run_of.Goals as goal

-- the rank of a run's cells times the placements of a run fits into 64 bits
pub overflow_mul-first : goal.overflow_mul-first
overflow_mul-first c =
    let p = c.args.self.now in
    let cells = c.args.cells in
    let r = c.rank_among-rank.result in
    let pat : IsPattern p = subst IsPattern c.self.view_is c.size.ensures.pattern in
    let others : c.from-others.result - 1 ≡ length p.tiles - 1 =
    ap (λ k. k - 1) (c.from-others.ensures ∙ c.size.ensures.size ∙ ap (λ q. length q.tiles) c.self.view_is) in
    let side : c.side.result ≡ p.side = c.side.ensures.side ∙ ap (λ q. q.side) c.self.view_is in
    let count : c.cells-count.result ≡ p.side * p.side = c.cells-count.ensures.value ∙ ap₂ (λ m n. m * n) side side in
    let rank : IsRank p.side (but_last p cells) r =
    IsRank-from p.side (but_last p cells) r (subst (λ k. slice_get (lists_of (length (take k cells)) (range_with_len 0 (p.side * p.side))) r ≡ Some
    (take k cells)) others
    (subst (λ m. slice_get (lists_of (length (take (c.from-others.result - 1) cells)) (range_with_len 0 m)) r ≡ Some
    (take (c.from-others.result - 1) cells)) count c.rank_among-rank.ensures)) in
    let few = few_cells p.side pat.low pat.high in
    let from = c.from.ensures in
    record { fits = run_fits p pat (but_last p cells) c.requires.run r rank (c.from.result - (c.from-others.result - 1)) (omega arith) }

-- the rank of a run's cells times the placements of a run is its first rank
pub entries_from-requires-clause-first : goal.entries_from-requires-clause-first
entries_from-requires-clause-first c =
    let p = c.args.self.now in
    let cells = c.args.cells in
    let r = c.rank_among-rank.result in
    let pat : IsPattern p = subst IsPattern c.self.view_is c.size.ensures.pattern in
    let others : c.from-others.result - 1 ≡ length p.tiles - 1 =
    ap (λ k. k - 1) (c.from-others.ensures ∙ c.size.ensures.size ∙ ap (λ q. length q.tiles) c.self.view_is) in
    let side : c.side.result ≡ p.side = c.side.ensures.side ∙ ap (λ q. q.side) c.self.view_is in
    let count : c.cells-count.result ≡ p.side * p.side = c.cells-count.ensures.value ∙ ap₂ (λ m n. m * n) side side in
    let rank : IsRank p.side (but_last p cells) r =
    IsRank-from p.side (but_last p cells) r (subst (λ k. slice_get (lists_of (length (take k cells)) (range_with_len 0 (p.side * p.side))) r ≡ Some
    (take k cells)) others
    (subst (λ m. slice_get (lists_of (length (take (c.from-others.result - 1) cells)) (range_with_len 0 m)) r ≡ Some
    (take (c.from-others.result - 1) cells)) count c.rank_among-rank.ensures)) in
    first_rank p (but_last p cells) c.requires.run r rank (c.from.result - (c.from-others.result - 1)) (ap₂ (λ m k. m - k) (c.from.ensures ∙ count) others)

-- what is put together for the cells is their run: the masks, the first rank, the entries and the rows
pub returns-clause-run : goal.returns-clause-run
returns-clause-run c =
    let p = c.args.self.now in
    let cells = c.args.cells in
    let r = c.rank_among-rank.result in
    let pat : IsPattern p = subst IsPattern c.self.view_is c.size.ensures.pattern in
    let others : c.from-others.result - 1 ≡ length p.tiles - 1 =
    ap (λ k. k - 1) (c.from-others.ensures ∙ c.size.ensures.size ∙ ap (λ q. length q.tiles) c.self.view_is) in
    let side : c.side.result ≡ p.side = c.side.ensures.side ∙ ap (λ q. q.side) c.self.view_is in
    let count : c.cells-count.result ≡ p.side * p.side = c.cells-count.ensures.value ∙ ap₂ (λ m n. m * n) side side in
    let rank : IsRank p.side (but_last p cells) r =
    IsRank-from p.side (but_last p cells) r (subst (λ k. slice_get (lists_of (length (take k cells)) (range_with_len 0 (p.side * p.side))) r ≡ Some
    (take k cells)) others
    (subst (λ m. slice_get (lists_of (length (take (c.from-others.result - 1) cells)) (range_with_len 0 m)) r ≡ Some
    (take (c.from-others.result - 1) cells)) count c.rank_among-rank.ensures)) in
    let few = few_cells p.side pat.low pat.high in
    let small : c.cells-count.result < 32 = omega arith in
    record {
      room = c.requires.room;
      run = c.requires.run;
      set = c.requires.set;
      free = subst (λ all. IsMaskOf (bit_and all (2 ^ 32 - 1 - c.args.set)) (IsFree p.side (but_last p cells))) (sym c.all_below.ensures)
          (free_is p.side c.args.set (but_last p cells) c.cells-count.result count small c.ranges.set.fits c.requires.set);
      first = first_rank p (but_last p cells) c.requires.run r rank (c.from.result - (c.from-others.result - 1))
          (ap₂ (λ m k. m - k) (c.from.ensures ∙ count) others);
      own = c.entries_from.ensures;
      rows = c.rows_of.ensures;
    }
