use Rattle.std.proofs.Common.{◌≡◌, sym, ◌∙◌, ap, eq-eqb}
use Rattle.std.proofs.lemmas.Bool.{eqb-true}
use Rattle.puz_board.specs.Masks.{numbers_of}
use Rattle.pat_place.proofs.MaskLemmas.{numbers_of-one}
use Rattle.puz_walk.proofs.word_bundles.is_of.Goals as goal

-- a pattern of the side is the one of a mask just where its own mask is that
pub returns-then-get : goal.returns-then-get
returns-then-get c =
    let p = c.args.pattern.now in
    let one = c.mask.ensures in (
      λ same.
          let masks : c.mask.result ≡ c.args.mask = eqb-true c.mask.result c.args.mask same in
          let tiles : p.tiles ≡ numbers_of c.args.mask = sym one ∙ ap numbers_of masks in
          let side : p.side ≡ c.args.side = sym c.side.ensures.side ∙ sym c.get.ensures.value ∙ c.if-get.true ∙ c.get-2.ensures.value in
          λ i. record { side = side i; tiles = tiles i },
      λ same. eq-eqb c.mask.result c.args.mask
          (numbers_of-one c.mask.result c.args.mask c.mask.type_inv c.ranges.mask.fits (one ∙ ap (λ x. x.tiles) same)),
    )
