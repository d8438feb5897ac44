use Rattle.std.proofs.Common.{◌≡◌, length, sym, ◌∙◌, ap, subst, arith}
use Rattle.puz_board.specs.Boards.{side_of}
use Rattle.puz_board.proofs.BoardLemmas.{side_of-board}
use Rattle.puz_walk.specs.Starts.{AreSumsOn}
use Rattle.set_sum.specs.Bundles.{ShownBundle}
use Rattle.puz_search.specs.Nodes.{IsPlaced}
use Rattle.puz_search.specs.declared.nodes.Node.{Node}
use Rattle.puz_search.specs.declared.searches.Search.{Search}
use Rattle.puz_search.proofs.refuting_alone.refute_over_words.Goals as goal

module _ (s : Search) (node : Node) (v : ShownBundle) (same : v ≡ s.guide.now.bundle) (placed : IsPlaced s node) where
  -- the node's board is of the side of the words
  side_there : side_of node.board ≡ v.side
  side_there = side_of-board s.guide.now.bundle.side node.board placed.board ∙ ap (λ v. v.side) (sym same)

  -- the node's sums are those of the sets of the words
  sums_there : AreSumsOn v node.board node.sums
  sums_there = subst (λ v. AreSumsOn v node.board node.sums) (sym same) placed.sums

-- of one set the walk with code for one is asked
pub new-walk-requires : goal.new-walk-requires
new-walk-requires c =
    let s = c.args.task.now in
    let node = c.args.node.now in
    let v = c.args.words.now in
    let count : length v.sets ≡ 1 = sym c.sets.ensures.sets ∙ c.in-1.is in
    (omega arith, (count, (side_there s node v c.requires.words c.requires.placed, sums_there s node v c.requires.words c.requires.placed)))

-- of two sets that with code for two
pub new-walk-requires-in-2 : goal.new-walk-requires-in-2
new-walk-requires-in-2 c =
    let s = c.args.task.now in
    let node = c.args.node.now in
    let v = c.args.words.now in
    let count : length v.sets ≡ 2 = sym c.sets.ensures.sets ∙ c.in-2.is in
    (omega arith, (count, (side_there s node v c.requires.words c.requires.placed, sums_there s node v c.requires.words c.requires.placed)))

-- the words are of boards of the node's side
pub new-walk-requires-in_default-clause-side : goal.new-walk-requires-in_default-clause-side
new-walk-requires-in_default-clause-side c =
    side_there c.args.task.now c.args.node.now c.args.words.now c.requires.words c.requires.placed
