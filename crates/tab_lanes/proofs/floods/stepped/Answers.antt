use Rattle.std.proofs.Common.{arith}
use Rattle.tab_lanes.proofs.FloodLemmas.{all_entered}
use Rattle.tab_lanes.proofs.floods.stepped.Goals as goal

-- the masks may grow, and steps sideways enter only cells outside the outer columns
pub grown-requires : goal.grown-requires
grown-requires g c = (
  let few = c.requires.few in omega arith,
  (
    c.requires.few,
    (
      c.requires.masks,
      all_entered g.row.N c.args.side c.first_column.result c.last_column.result c.args.masks c.args.free c.fits-free.0 c.fits-free.1
          c.requires.masks c.first_column.type_inv c.last_column.type_inv c.first_column.ensures
          c.last_column.ensures,
    ),
  ),
)
