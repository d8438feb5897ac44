use Rattle.std.proofs.Common.{◌≡◌, ℕ, ◌+◌, ◌*◌, ◌<◌, ◌≤◌, get_or, replicate, sym, ◌∙◌, ap, subst, arith}
use Rattle.tab_file.specs.Tables.{slot_count}
use Rattle.tab_lanes.specs.Floods.{AllMayGrow}
use Rattle.tab_columns.specs.Columns.{IsFirstRegion}
use Rattle.tab_columns.proofs.ColumnLemmas.{few_slots_each}
use Rattle.tab_columns.proofs.FloodLemmas.{AreTaken-start, AreTaken-grow, AreTaken-more, AreTaken-all}
use Rattle.tab_columns.proofs.floods.masks_of.Goals as goal

-- at first, no slot is done, and all free cells are left
pub loop-slot-init : goal.loop-slot-init
loop-slot-init c = record {
  taken = AreTaken-start c.args.table.now.pattern c.pattern-pattern.ensures.table.pattern c.args.placements.now c.requires.few c.requires.placements
      c.free_column-free.result c.free_column-free.ensures (replicate {A = ℕ} 2048 0);
  len = c.free_column-free.ensures.len;
}

-- the masks of what is left may grow over the free cells of their rows
pub first_regions-regions-requires : goal.first_regions-regions-requires
first_regions-regions-requires c =
    let p = c.args.table.now.pattern in
    let side : c.side.result ≡ p.side = c.side.ensures.side ∙ ap (λ q. q.side) c.pattern-pattern.ensures.pattern in
    subst (λ n. AllMayGrow n c.loop-slot.rest c.free_column-free.result) (sym side) (
    AreTaken-grow p c.args.placements.now c.loop-slot.slot c.free_column-free.result c.loop-slot.rest c.loop-slot.masks c.requires.placements
    c.free_column-free.ensures c.loop-slot.invariant.len c.loop-slot.invariant.taken)

-- a pattern has at most 8 slots, so a column has room for each
pub put_slot-requires-clause-width : goal.put_slot-requires-clause-width
put_slot-requires-clause-width c =
    let p = c.args.table.now.pattern in
    let width : c.from-width.result ≡ slot_count p = c.from-width.ensures ∙ c.width.ensures ∙ ap slot_count c.pattern-pattern.ensures.pattern in
    let few = few_slots_each p c.pattern-pattern.ensures.table.pattern in
    omega arith

-- with the regions of one slot put in and taken out of the rest, one slot more is done
pub loop-slot-preserved : goal.loop-slot-preserved
loop-slot-preserved c =
    let p = c.args.table.now.pattern in
    let width : c.from-width.result ≡ slot_count p = c.from-width.ensures ∙ c.width.ensures ∙ ap slot_count c.pattern-pattern.ensures.pattern in
    let side : c.side.result ≡ p.side = c.side.ensures.side ∙ ap (λ q. q.side) c.pattern-pattern.ensures.pattern in
    let low : c.loop-slot.slot < slot_count p = subst (λ w. c.loop-slot.slot < w) width c.loop-slot-test.true in
    record {
      taken = AreTaken-more p c.pattern-pattern.ensures.table.pattern c.args.placements.now c.requires.few c.requires.placements
          c.free_column-free.result c.free_column-free.ensures
          c.loop-slot.slot c.loop-slot.rest c.loop-slot.masks c.first_regions-regions.result c.take_out.new.rest c.put_slot.new.masks low
          c.loop-slot.invariant.taken
          (λ row l. subst (λ n. IsFirstRegion n (get_or c.free_column-free.result row 0) (get_or c.loop-slot.rest row 0)
          (get_or c.first_regions-regions.result row 0)) side (c.first_regions-regions.ensures.each row l))
          (λ row l. subst (λ w. get_or c.put_slot.new.masks (row * w + c.loop-slot.slot) 0 ≡ get_or c.first_regions-regions.result row 0) width
          (c.put_slot.ensures.here row l))
          (λ row j l ne. subst (λ w. get_or c.put_slot.new.masks (row * w + j) 0 ≡ get_or c.loop-slot.masks (row * w + j) 0) width
          (c.put_slot.ensures.others row j (subst (λ w. j < w) (sym width) l) ne))
          c.take_out.ensures;
      len = c.take_out.array_long;
    }

-- with all slots done, each has the mask of its region
pub returns : goal.returns
returns c =
    let p = c.args.table.now.pattern in
    let width : c.from-width.result ≡ slot_count p = c.from-width.ensures ∙ c.width.ensures ∙ ap slot_count c.pattern-pattern.ensures.pattern in
    AreTaken-all p c.pattern-pattern.ensures.table.pattern c.args.placements.now c.requires.few c.requires.placements c.free_column-free.result
    c.free_column-free.ensures c.loop-slot.slot c.loop-slot.rest c.loop-slot.masks
    (subst (λ w. w ≤ c.loop-slot.slot) width c.loop-slot-test.false) c.loop-slot.invariant.taken
