use Rattle.std.proofs.Common.{◌<◌, length, sym, ◌∙◌, ap, subst, set}
use Rattle.pat_place.specs.Placements.{IsFree}
use Rattle.pat_place.specs.StoredPlacements.{placement_shown}
use Rattle.pat_place.proofs.PlacementLemmas.{placed, IsStoredPlacement-moved, placement_shown-moved}
use Rattle.pat_place.proofs.placements.Placement.moved.Goals as goal

here : (c : goal.After-result-1) → c.args.index < length (placement_shown c.self.inside).cells
here c = subst (λ p. c.args.index < length p.cells) (sym c.self.view_is) c.requires.index

free : (c : goal.After-result-1) → IsFree (placement_shown c.self.inside).pattern.side (placement_shown c.self.inside).cells c.args.cell
free c = subst (λ p. IsFree p.pattern.side p.cells c.args.cell) (sym c.self.view_is) c.requires.free

-- the fields with the tile's cell changed are those of a placement
pub invariant_of-result : goal.invariant_of-result
invariant_of-result c = IsStoredPlacement-moved c.self.inside c.self.invariant c.args.index c.args.cell (here c) (free c)

-- the new placement shows the cells with the one tile in its new cell
pub returns : goal.returns
returns c =
    placement_shown-moved c.self.inside c.self.invariant c.args.index c.args.cell (here c) (free c) ∙
    ap (λ p. placed p.pattern (set p.cells c.args.index c.args.cell)) c.self.view_is
