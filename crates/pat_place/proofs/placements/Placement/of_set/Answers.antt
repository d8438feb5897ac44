use Rattle.std.proofs.Common.{◌≡◌, true, sym, ◌∙◌, ap, subst}
use Rattle.puz_board.specs.Masks.{IsMaskOf}
use Rattle.pat_place.specs.Patterns.{has}
use Rattle.pat_place.specs.Placements.{IsPlacement}
use Rattle.pat_place.proofs.PlacementLemmas.{placed}
use Rattle.pat_place.proofs.SetLemmas.{few_numbers, placement_of_set, set_of_numbers}
use Rattle.pat_place.proofs.placements.Placement.of_set.Goals as goal

-- a set of as many cells as the pattern has tiles has at most 8 to list
pub put_numbers-requires-clause-few : goal.put_numbers-requires-clause-few
put_numbers-requires-clause-few c = few_numbers c.args.pattern.now c.side-side.ensures.pattern c.args.set c.requires.bits c.requires.size

-- the cells listed from the set are a placement of the pattern
pub in_cells-requires : goal.in_cells-requires
in_cells-requires c =
    let p = c.args.pattern.now in
    subst (λ xs. IsPlacement (placed p xs)) (sym (c.as_slice.ensures.value ∙ c.put_numbers.ensures))
    (placement_of_set p c.side-side.ensures.pattern c.args.set c.requires.bits c.requires.size)

-- the set is the mask of the new placement's cells
pub returns-clause-set : goal.returns-clause-set
returns-clause-set c =
    let cells = c.as_slice.ensures.value ∙ c.put_numbers.ensures in
    let e = ap (λ q. q.cells) c.in_cells.ensures ∙ cells in
    subst (λ xs. IsMaskOf c.args.set (λ x. has xs x ≡ true)) (sym e)
    (set_of_numbers c.args.pattern.now c.side-side.ensures.pattern c.args.set c.requires.bits c.requires.size)
