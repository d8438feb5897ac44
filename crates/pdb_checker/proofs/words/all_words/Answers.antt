use Rattle.std.proofs.Common.{◌≡◌, ◌∷◌, ◌∙◌, [], ap, arith, length-append, sym}
use Rattle.set_sum.specs.Parts.{part_pattern}
use Rattle.set_sum.proofs.PartLemmas.{shown_tiles}
use Rattle.puz_walk.specs.WordBundles.{pattern_at}
use Rattle.pdb_checker.proofs.WordLemmas.{more_words}
use Rattle.pdb_checker.proofs.words.all_words.Goals as goal

-- with the words of one table more, they are those of the tables so far and of this one
pub loop-number-preserved : goal.loop-number-preserved
loop-number-preserved c =
    let all = c.loop-number.all.items in
    let words = c.in-Some.words in
    let v = c.args.bundle.now in
    let count = c.loop-number.invariant.size in
    let tiles = shown_tiles c.part.result.now ∙ ap (λ p. p.tiles) c.part.ensures.part in
    let here : part_pattern c.part.result.now ≡ pattern_at v c.loop-number.number = λ i. record { side = c.part.ensures.side i; tiles = tiles i } in
    rw c.in_ok-push.ensures.items (record {
      size = omega (arith, length-append all (words ∷ []), count);
      each = more_words v all words c.loop-number.invariant.each (c.in-Some.ensures ∙ here ∙ ap (pattern_at v) (sym count));
    })

-- then they are those of all
pub returns : goal.returns
returns c =
    let so_far = c.loop-number.invariant in
    let can = c.requires in
    let past = c.loop-number-test.false in
    let end = c.loop-number.auto.number-end in
    let count = c.tables-number-end.ensures.tables in
    record {
      few = can.few;
      size = omega (arith, so_far.size);
      each = λ t low. record {
        full = (can.each t low).full;
        pattern = so_far.each t;
      };
    }
