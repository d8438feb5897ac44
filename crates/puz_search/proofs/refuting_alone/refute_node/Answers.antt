use Rattle.std.proofs.Common.{sym, ◌∙◌, ap}
use Rattle.puz_board.proofs.BoardLemmas.{side_of-board}
use Rattle.puz_search.specs.StoredGuides.{bundle_of}
use Rattle.puz_search.proofs.refuting_alone.refute_node.Goals as goal

-- the node's board is of the bundle's side, as a walk over sums needs it
pub new-walk-requires : goal.new-walk-requires
new-walk-requires c =
    side_of-board c.args.task.now.guide.now.bundle.side c.args.node.now.board c.requires.placed.board
    ∙ ap (λ v. v.side) (sym c.sets.ensures ∙ ap bundle_of c.in-Sums.is)
