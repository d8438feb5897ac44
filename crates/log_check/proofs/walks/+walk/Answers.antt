use Rattle.std.proofs.Common.{◌≡◌, ◌+◌, ◌∷◌, ◌-◌, Some, List, refl, sym, subst, ap, length, ◌∙◌, arith}
use Rattle.std.specs.Prelude.{IfNone, IfSome}
use Rattle.puz_board.proofs.MovedLemmas.{IsBoardOf-moved}
use Rattle.set_sum.specs.Steps.{IsStepFrom}
use Rattle.set_sum.specs.ShownSums.{ShownSums}
use Rattle.log_check.specs.Nodes.{BeginsWith, BeginsWithNone}
use Rattle.log_check.specs.PendingBoard.{waiting_of}
use Rattle.log_check.specs.Walks.{AreNeverPending, AreWalked, MayHave, Waiting, all_moves, with_child, with_children, with_node}
use Rattle.log_check.specs.declared.nodes.TreeNode.TheVariants.{Branch}
use Rattle.log_check.proofs.BehindLemmas.{none_as, none_so, refused_as, refused_children, refused_node, refused_none, some_as, walked_as, walked_node}
use Rattle.log_check.proofs.BehindLemmas.{walked_none, with_child-off, with_child-there}
use Rattle.log_check.proofs.NodeLemmas.{BeginsWith-same, with_node-other}
use Rattle.log_check.proofs.walks.+walk.Goals as goal

-- the board after the move is one of the log's side, and the walk's measure is smaller there
pub behind_child-behind_tree-behind-requires : goal.behind_child-behind_tree-behind-requires
behind_child-behind_tree-behind-requires t c =
    let s = c.args.reached.now.sums in
    let child = c.step.new.self in
    let is = c.in-Some.ensures.some in (
      let measure = c.decreases in let some = c.requires.bound in omega arith,
      (
        c.requires.there,
        (
          c.requires.side ∙ ap (λ v. v.side) (sym is.1),
          IsBoardOf-moved c.args.log.now.side s.board c.requires.board c.args.mv child.board is.0,
        ),
      ),
    )

-- the step that is taken back is the one that was made
pub behind_child-take_back-requires : goal.behind_child-take_back-requires
behind_child-take_back-requires t c =
    let s = c.args.reached.now.sums in
    let is = c.in-Some.ensures.some in
    let same = ap (λ r. r.sums) c.behind_tree-behind.ensures.same in (
      s.board,
      subst (λ w. IsStepFrom w.bundle s.board w.board c.in-Some.step) (sym same)
          (subst (λ v. IsStepFrom v s.board c.step.new.self.board c.in-Some.step) (sym is.1) is.2),
    )

-- the bytes behind the tree of the board after the move are those behind the child
pub behind_child-returns-in-Some-clause-some : goal.behind_child-returns-in-Some-clause-some
behind_child-returns-in-Some-clause-some t c =
    let s = c.args.reached.now.sums in
    let log = c.args.log.now in
    let w = waiting_of c.args.reached.now in
    let next = c.step.new.self in
    let is = c.in-Some.ensures.some in
    let child : Waiting = record { board = next.board; arriving = Some c.args.mv; bound = w.bound - 1 } in
    some_as (λ behind. AreWalked next.bundle log c.args.i (λ ws. child ∷ ws) c.args.bytes.now behind.now)
    (λ behind. AreWalked s.bundle log c.args.i (with_child w c.args.mv) c.args.bytes.now behind.now)
    (λ behind walked. walked_as s.bundle log c.args.i (with_child w c.args.mv) (λ ws. child ∷ ws) c.args.bytes.now behind.now
    (with_child-there w c.args.mv (sym c.takes_back.ensures ∙ c.if-takes_back.false) next.board is.0)
    (subst (λ v. AreWalked v log c.args.i (λ ws. child ∷ ws) c.args.bytes.now behind.now) is.1 walked))
    c.behind_tree-behind.result c.behind_tree-behind.ensures.some

-- where bytes begin with no tree for the board after the move, the child never waits for them
pub behind_child-returns-in-Some-clause-none : goal.behind_child-returns-in-Some-clause-none
behind_child-returns-in-Some-clause-none t c =
    let s = c.args.reached.now.sums in
    let log = c.args.log.now in
    let w = waiting_of c.args.reached.now in
    let next = c.step.new.self in
    let is = c.in-Some.ensures.some in
    let child : Waiting = record { board = next.board; arriving = Some c.args.mv; bound = w.bound - 1 } in
    none_as (AreNeverPending next.bundle log c.args.i (λ ws. child ∷ ws) c.args.bytes.now)
    (AreNeverPending s.bundle log c.args.i (with_child w c.args.mv) c.args.bytes.now)
    (λ none. refused_as s.bundle log c.args.i (with_child w c.args.mv) (λ ws. child ∷ ws) c.args.bytes.now
    (with_child-there w c.args.mv (sym c.takes_back.ensures ∙ c.if-takes_back.false) next.board is.0)
    (subst (λ v. AreNeverPending v log c.args.i (λ ws. child ∷ ws) c.args.bytes.now) is.1 none))
    c.behind_tree-behind.result c.behind_tree-behind.ensures.none

-- with the step taken back and the bound raised again, what was reached is as before
pub behind_child-returns-in-Some-clause-same : goal.behind_child-returns-in-Some-clause-same
behind_child-returns-in-Some-clause-same t c =
    let r = c.args.reached.now in
    let s = r.sums in
    let is = c.in-Some.ensures.some in
    let after = c.behind_tree-behind.new.reached in
    let same = c.behind_tree-behind.ensures.same in
    let sums : after.sums ≡ c.step.new.self = ap (λ x. x.sums) same in
    let from = subst (λ w. IsStepFrom w.bundle s.board w.board c.in-Some.step) (sym sums)
    (subst (λ v. IsStepFrom v s.board c.step.new.self.board c.in-Some.step) (sym is.1) is.2) in
    let back : c.take_back.new.self ≡ s =
    c.take_back.ensures s.board from ∙ ap {B = ShownSums} (λ v. record { bundle = v; board = s.board }) (ap (λ w. w.bundle) sums ∙ is.1) in
    let bound : after.bound + 1 ≡ r.bound = (let less : after.bound ≡ r.bound - 1 = ap (λ x. x.bound) same in let some = c.requires.bound in omega arith) in
    λ i. record { sums = back i; arriving = r.arriving; bound = bound i }

-- a move that can't be made has no child, so all bytes are behind it
pub behind_child-returns-in-None-clause-some : goal.behind_child-returns-in-None-clause-some
behind_child-returns-in-None-clause-some t c =
    let w = waiting_of c.args.reached.now in
    walked_none c.args.reached.now.sums.bundle c.args.log.now c.args.i (with_child w c.args.mv) c.args.bytes.now
    (with_child-off w c.args.mv c.in-None.ensures.none.0)

-- a move that can't be made leaves what was reached as it is
pub behind_child-returns-in-None-clause-same : goal.behind_child-returns-in-None-clause-same
behind_child-returns-in-None-clause-same t c =
    let r = c.args.reached.now in
    λ i. record { sums = c.in-None.ensures.none.1 i; arriving = r.arriving; bound = r.bound }

-- bytes that begin with no node begin with no tree for the board
pub behind_tree-returns-in_err-node-clause-none : goal.behind_tree-returns-in_err-node-clause-none
behind_tree-returns-in_err-node-clause-none t c =
    let r = c.args.reached.now in
    let v = r.sums.bundle in
    let log = c.args.log.now in
    let none : BeginsWithNone log.version (length v.sets) c.args.bytes.now =
    λ node behind begins. c.in_err-node.ensures.none node behind
    (BeginsWith-same node behind c.args.bytes.now (sym c.version.ensures.version) (sym c.sets.ensures.sets) begins) in
    none_so (AreNeverPending v log c.args.i (λ ws. waiting_of r ∷ ws) c.args.bytes.now)
    (refused_none v log c.args.i c.sets.ensures.bundle.few_sets c.ranges.i.fits (waiting_of r) c.args.bytes.now none)
    c.from_residual.result

-- bytes whose first node the board may not have begin with no tree for it
pub behind_tree-returns-then-not-may_have-clause-none : goal.behind_tree-returns-then-not-may_have-clause-none
behind_tree-returns-then-not-may_have-clause-none t c =
    let r = c.args.reached.now in
    let v = r.sums.bundle in
    let begins : BeginsWith c.args.log.now.version (length v.sets) c.in_ok-node.node c.in_ok-node.behind.now c.args.bytes.now =
    BeginsWith-same c.in_ok-node.node c.in_ok-node.behind.now c.args.bytes.now c.version.ensures.version c.sets.ensures.sets c.in_ok-node.ensures.some in
    refused_node v c.args.log.now c.args.i c.sets.ensures.bundle.few_sets c.ranges.i.fits (waiting_of r) c.args.bytes.now
    c.in_ok-node.node c.in_ok-node.behind.now begins
    (λ may. let test = c.if-not-may_have.ensures.may.1 may in cc)

-- the bytes behind the children of a branch are those behind the tree of its board
pub behind_tree-returns-in-Branch-clause-some : goal.behind_tree-returns-in-Branch-clause-some
behind_tree-returns-in-Branch-clause-some t c =
    let r = c.args.reached.now in
    let v = r.sums.bundle in
    let log = c.args.log.now in
    let w = waiting_of r in
    let between : List _ = c.in_ok-node.behind.now in
    let begins : BeginsWith log.version (length v.sets) Branch between c.args.bytes.now =
    subst (λ node. BeginsWith log.version (length v.sets) node between c.args.bytes.now) c.in-Branch.is
    (BeginsWith-same c.in_ok-node.node between c.args.bytes.now c.version.ensures.version c.sets.ensures.sets c.in_ok-node.ensures.some) in
    let may : MayHave v log c.args.i w Branch = subst (MayHave v log c.args.i w) c.in-Branch.is (c.if-not-may_have.ensures.may.0 refl) in
    some_as (λ behind. AreWalked v log c.args.i (with_children w all_moves) between behind.now)
    (λ behind. AreWalked v log c.args.i (λ ws. w ∷ ws) c.args.bytes.now behind.now)
    (λ behind walked. walked_node v log c.args.i c.sets.ensures.bundle.few_sets c.ranges.i.fits w c.args.bytes.now Branch between begins may behind.now walked)
    c.behind_children.result
    (subst (λ x. IfSome c.behind_children.result (λ behind. AreWalked x.sums.bundle log c.args.i (with_children (waiting_of x) all_moves) between behind.now))
    c.may_have.ensures.same c.behind_children.ensures.some)

-- where no trees for its children are behind a branch, the bytes begin with no tree for its board
pub behind_tree-returns-in-Branch-clause-none : goal.behind_tree-returns-in-Branch-clause-none
behind_tree-returns-in-Branch-clause-none t c =
    let r = c.args.reached.now in
    let v = r.sums.bundle in
    let log = c.args.log.now in
    let w = waiting_of r in
    let between : List _ = c.in_ok-node.behind.now in
    let begins : BeginsWith log.version (length v.sets) Branch between c.args.bytes.now =
    subst (λ node. BeginsWith log.version (length v.sets) node between c.args.bytes.now) c.in-Branch.is
    (BeginsWith-same c.in_ok-node.node between c.args.bytes.now c.version.ensures.version c.sets.ensures.sets c.in_ok-node.ensures.some) in
    none_as (AreNeverPending v log c.args.i (with_children w all_moves) between) (AreNeverPending v log c.args.i (λ ws. w ∷ ws) c.args.bytes.now)
    (refused_children v log c.args.i c.sets.ensures.bundle.few_sets c.ranges.i.fits w c.args.bytes.now Branch between begins)
    c.behind_children.result
    (subst (λ x. IfNone c.behind_children.result (AreNeverPending x.sums.bundle log c.args.i (with_children (waiting_of x) all_moves) between))
    c.may_have.ensures.same c.behind_children.ensures.none)

-- a leaf or a citation that the board may have is a tree, and all behind it is behind the tree
pub behind_tree-returns-in_default-clause-some : goal.behind_tree-returns-in_default-clause-some
behind_tree-returns-in_default-clause-some t c =
    let r = c.args.reached.now in
    let v = r.sums.bundle in
    let log = c.args.log.now in
    let w = waiting_of r in
    let node = c.in_ok-node.node in
    let behind : List _ = c.in_ok-node.behind.now in
    let begins : BeginsWith log.version (length v.sets) node behind c.args.bytes.now =
    BeginsWith-same node behind c.args.bytes.now c.version.ensures.version c.sets.ensures.sets c.in_ok-node.ensures.some in
    walked_node v log c.args.i c.sets.ensures.bundle.few_sets c.ranges.i.fits w c.args.bytes.now node behind begins
    (c.if-not-may_have.ensures.may.0 refl) behind
    (walked_none v log c.args.i (with_node node w) behind (λ ws. with_node-other node w ws c.in_default.not-Branch))
