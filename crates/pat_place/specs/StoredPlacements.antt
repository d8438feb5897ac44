-- How a placement is stored: its cells stand at the front of an array of 8, with zeros behind them.
use Rattle.std.specs.Prelude.{◌≡◌, ◌-◌, ◌++◌, length, take, drop, replicate}
use Rattle.std.proofs.Common.{sym, ◌∙◌, ap}
use Rattle.std.proofs.lemmas.List.{take-append-drop}
use Rattle.pat_place.specs.declared.placements.Placement.TheInside.{Inside}
use Rattle.pat_place.specs.Patterns.{IsPattern}
use Rattle.pat_place.specs.Placements.{ShownPlacement, IsPlacement}

-- the cells that count
abbrev pub placement_shown : Inside → ShownPlacement
placement_shown p = record { pattern = p.pattern; cells = take (length p.pattern.tiles) p.cells }

-- these are the fields of a placement
pub record IsStoredPlacement (p : Inside) : Type 0 where
  pub room : length p.cells ≡ 8
  pub pattern : IsPattern p.pattern
  pub placement : IsPlacement (placement_shown p)
  pub rest : drop (length p.pattern.tiles) p.cells ≡ replicate (8 - length p.pattern.tiles) 0

-- the fields of the placement with this pattern and these cells
abbrev pub stored_placement_of : ShownPlacement → Inside
stored_placement_of p = record { pattern = p.pattern; cells = p.cells ++ replicate (8 - length p.cells) 0 }

refilled_cells : (p : Inside) → IsStoredPlacement p → (stored_placement_of (placement_shown p)).cells ≡ p.cells
refilled_cells p kept =
    ap (λ k. take (length p.pattern.tiles) p.cells ++ replicate (8 - k) 0) kept.placement.size ∙
    ap (λ zs. take (length p.pattern.tiles) p.cells ++ zs) (sym kept.rest) ∙
    take-append-drop (length p.pattern.tiles) p.cells

-- the cells that count give the fields back
pub stored_placement_of-shown : (p : Inside) → IsStoredPlacement p → stored_placement_of (placement_shown p) ≡ p
stored_placement_of-shown p kept = λ i. record { pattern = p.pattern; cells = refilled_cells p kept i }
