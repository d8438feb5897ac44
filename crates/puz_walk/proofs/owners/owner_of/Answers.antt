use Rattle.std.proofs.Common.{◌≡◌, ◌<◌, ◌*◌, false, length, get_or, slice_index, sym, ◌∙◌, ap, subst}
use Rattle.std.specs.Prelude.{slice_get}
use Rattle.puz_board.specs.Masks.{numbers_of}
use Rattle.pat_place.specs.Patterns.{has}
use Rattle.set_sum.specs.Members.{table_pattern}
use Rattle.set_sum.specs.declared.members.Member.{Member}
use Rattle.set_sum.proofs.ListLemmas.{all_more, get_or-slice_get, no_member}
use Rattle.set_sum.proofs.PartLemmas.{shown_tiles}
use Rattle.edge_words.proofs.SpotLemmas.{tile_index}
use Rattle.puz_walk.specs.StoredWords.{cell_for}
use Rattle.puz_walk.proofs.OwnerLemmas.{cell_small, other_bit}
use Rattle.puz_walk.proofs.owners.owner_of.Goals as goal

-- a member whose mask has the tile that it looks up owns the tile, with the count of smaller tiles as its index
pub returns-then-has_cell : goal.returns-then-has_cell
returns-then-has_cell c =
    let v = c.args.bundle.now in
    let set = c.members-member-items.result.now in
    let i = c.loop-member.member-index in
    let m : Member = get_or set i no_member in
    let low : i < length set = c.loop-member-test.true in
    let wanted = c.cell_for-wanted.result in
    let wanted_is : wanted ≡ cell_for v.side m c.args.tile = c.cell_for-wanted.ensures.value ∙ ap (λ n. cell_for n m c.args.tile) c.side-side.ensures.side in
    let tiles : numbers_of c.mask-mask.result ≡ table_pattern v.tables m =
    c.mask-mask.ensures ∙ ap (λ p. p.tiles) c.pattern.ensures.pattern ∙ shown_tiles c.part.result.now ∙ ap (λ p. p.tiles) c.part.ensures.part in
    let small : wanted < 32 = cell_small v.side wanted c.side-side.ensures.bundle.low c.side-side.ensures.bundle.high
    (subst (λ n. wanted < n * n) c.side-side.ensures.side c.cell_for-wanted.ensures.within) in
    let index = tile_index c.mask-mask.result wanted (table_pattern v.tables m) tiles small (c.has_cell.ensures.0 c.if-has_cell.true) in
    record {
      number = i;
      member = ap (λ xs. slice_get xs i) (sym c.members-member-items.ensures.members) ∙ get_or-slice_get set i no_member low;
      low = subst (λ k. k < length (table_pattern v.tables m)) (sym c.count_below.ensures.count) index.0;
      is = ap (slice_index (table_pattern v.tables m)) c.count_below.ensures.count ∙ index.1 ∙ wanted_is;
    }

-- where the mask of one more member hasn't the tile that it looks up, no member so far has it
pub loop-member-preserved : goal.loop-member-preserved
loop-member-preserved c =
    let v = c.args.bundle.now in
    let set = c.members-member-items.result.now in
    let i = c.loop-member.member-index in
    let m : Member = get_or set i no_member in
    let low : i < length set = c.loop-member-test.true in
    let wanted = c.cell_for-wanted.result in
    let wanted_is : wanted ≡ cell_for v.side m c.args.tile = c.cell_for-wanted.ensures.value ∙ ap (λ n. cell_for n m c.args.tile) c.side-side.ensures.side in
    let tiles : numbers_of c.mask-mask.result ≡ table_pattern v.tables m =
    c.mask-mask.ensures ∙ ap (λ p. p.tiles) c.pattern.ensures.pattern ∙ shown_tiles c.part.result.now ∙ ap (λ p. p.tiles) c.part.ensures.part in
    let none : has (table_pattern v.tables m) wanted ≡ false =
    other_bit (table_pattern v.tables m) c.mask-mask.result wanted tiles (λ one. let test = c.has_cell.ensures.1 one in
    let no = c.if-has_cell.false in cc) in
    all_more (λ o. has (table_pattern v.tables o) (cell_for v.side o c.args.tile) ≡ false) set i no_member low c.loop-member.invariant
    (subst (λ t. has (table_pattern v.tables m) t ≡ false) wanted_is none)
