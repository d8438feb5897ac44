-- How an outline is stored: the masks of the patterns, the sets, what a walk reads for each set and tile, and where moves lead.
use Rattle.std.specs.Prelude.{map}
use Rattle.set_sum.specs.Bundles.{IsBundle, ShownBundle}
use Rattle.puz_walk.specs.Outlines.{full_part}
use Rattle.puz_walk.specs.Seats.{AreSeatsOf}
use Rattle.puz_walk.specs.StoredWords.{AreWaysOf}
use Rattle.puz_walk.specs.declared.outlines.Outline.TheInside.{Inside}

-- the bundle
abbrev pub outline_shown : Inside → ShownBundle
outline_shown w = record { side = w.side; tables = map full_part w.masks.items; sets = map (λ set. set.items) w.sets.items }

-- these are the fields of an outline
pub record IsStoredOutline (w : Inside) : Type 0 where
  pub bundle : IsBundle (outline_shown w)
  pub seats : AreSeatsOf (outline_shown w) w.seats
  pub ways : AreWaysOf w.side w.ways
