use Rattle.std.proofs.Common.{◌≡◌, ℕ, ◌+◌, ◌*◌, ◌<◌, ◌≤◌, ◌∙◌, sym, ap, ap₂, subst, arith}
use Rattle.std.specs.Int.{bit_at}
use Rattle.std.proofs.lemmas.Bool.{both_ways}
use Rattle.puz_board.specs.Transposing.{transposed_tiles}
use Rattle.puz_board.specs.Masks.{numbers_of}
use Rattle.puz_board.proofs.CellLemmas.{few_cells}
use Rattle.pat_place.specs.Patterns.{IsPattern}
use Rattle.pat_place.proofs.MaskOfLemmas.{mask_of-numbers_below}
use Rattle.pat_place.proofs.TransposedLemmas.{IsPattern-transposed, IsTurned, turned_all, turned_in, turned_none, turned_out}
use Rattle.pat_place.proofs.patterns.Pattern.transposed.Goals as goal
use Rattle.pat_place.proofs.patterns.Pattern.transposed.Goals.{then-has_cell, else-has_cell}

-- the transposed mask begins without any tile
pub loop-tile-init : goal.loop-tile-init
loop-tile-init c = turned_none c.side-side.result c.self.inside.mask

-- the next tile is put into the mask exactly where its transposed tile is in the pattern's
pub loop-tile-preserved : goal.loop-tile-preserved
loop-tile-preserved c =
    let n = c.side-side.result in
    let few = few_cells n c.cells-tile-end.ensures.low c.cells-tile-end.ensures.high in
    let low : c.loop-tile.tile < 32 = (let e = c.cells-tile-end.ensures.value in omega arith) in
    let from = c.self.inside.mask in
    let cell = c.transposed_cell.ensures.value in
    elim c.if-has_cell.branch [
      | then-has_cell w ↦ subst (IsTurned n from (c.loop-tile.tile + 1)) (sym w.mask-is)
          (turned_in n from c.loop-tile.tile c.loop-tile.mask w.with-mask.result c.loop-tile.invariant low w.with-mask.type_inv
          (ap (bit_at from) (sym cell) ∙ c.has_cell.ensures.0 w.if-has_cell.true) w.with-mask.ensures.here w.with-mask.ensures.others)
      | else-has_cell w ↦ subst (IsTurned n from (c.loop-tile.tile + 1)) (sym w.mask-is)
          (turned_out n from c.loop-tile.tile c.loop-tile.mask c.loop-tile.invariant low
          (λ set. both_ways c.has_cell.result w.if-has_cell.false (c.has_cell.ensures.1 (ap (bit_at from) cell ∙ set))))
    ]

module _ (from mask n count tile : ℕ) (kept : IsPattern (record { side = n; tiles = numbers_of from })) (size : count ≡ n * n) (last : count ≤ tile)
    (in_reach : tile ≤ count)
    (turned : IsTurned n from tile mask) where
  turned_whole : numbers_of mask ≡ transposed_tiles n (numbers_of from)
  turned_whole = turned_all n from mask kept.low kept.high (subst (λ k. IsTurned n from k mask) (let e : tile ≡ n * n = omega arith in e) turned)

  pattern_whole : IsPattern (record { side = n; tiles = numbers_of mask })
  pattern_whole = subst (λ ts. IsPattern (record { side = n; tiles = ts })) (sym turned_whole)
      (IsPattern-transposed (record { side = n; tiles = numbers_of from }) kept)

-- the side and the transposed mask are the fields of a pattern
pub invariant_of-result : goal.invariant_of-result
invariant_of-result c =
    let from = c.self.inside.mask in
    let side : c.self.inside.side ≡ c.side-side.result = ap (λ p. p.side) c.self.view_is ∙ sym c.side-side.ensures.side in
    let kept : IsPattern (record { side = c.side-side.result; tiles = numbers_of from }) =
    subst (λ n. IsPattern (record { side = n; tiles = numbers_of from })) side c.self.invariant.pattern in
    record {
      pattern = pattern_whole from c.loop-tile.mask c.side-side.result c.cells-tile-end.result c.loop-tile.tile kept c.cells-tile-end.ensures.value
          c.loop-tile-test.false c.loop-tile.auto.tile-end c.loop-tile.invariant;
      bits = c.loop-tile.invariant.few;
      of_tiles = mask_of-numbers_below 32 c.loop-tile.mask c.loop-tile.invariant.few;
    }

-- the new pattern has the same side, and the transposed tiles
pub returns : goal.returns
returns c =
    let from = c.self.inside.mask in
    let side : c.self.inside.side ≡ c.side-side.result = ap (λ p. p.side) c.self.view_is ∙ sym c.side-side.ensures.side in
    let kept : IsPattern (record { side = c.side-side.result; tiles = numbers_of from }) =
    subst (λ n. IsPattern (record { side = n; tiles = numbers_of from })) side c.self.invariant.pattern in
    let whole = turned_whole from c.loop-tile.mask c.side-side.result c.cells-tile-end.result c.loop-tile.tile kept c.cells-tile-end.ensures.value
    c.loop-tile-test.false c.loop-tile.auto.tile-end c.loop-tile.invariant in
    let tiles : numbers_of from ≡ c.args.self.now.tiles = ap (λ p. p.tiles) c.self.view_is in
    let both : numbers_of c.loop-tile.mask ≡ transposed_tiles c.args.self.now.side c.args.self.now.tiles =
    whole ∙ ap₂ transposed_tiles c.side-side.ensures.side tiles in
    λ i. record { side = c.side-side.ensures.side i; tiles = both i }
