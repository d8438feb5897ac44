use Rattle.std.proofs.Common.{[], ◌∷◌, None, refl, subst}
use Rattle.log_check.specs.GoodLogs.{IsGood}
use Rattle.log_check.specs.Walks.{AreNeverPending, AreWalked}
use Rattle.log_check.proofs.NodeLemmas.{none_left, refused, root-pending}
use Rattle.log_check.proofs.lemmas.check_lemma.Goals as goal

-- a lemma whose bytes begin with a tree for its board is good exactly where none are behind this tree
pub returns-in-Some : goal.returns-in-Some
returns-in-Some c =
    let v = c.args.bundle.now in
    let log = c.args.log.now in
    let good = root-pending v log c.args.i c.requires.there c.board-board.result c.bound.result c.tree.result.now []
    c.board-board.ensures.value c.bound.ensures c.tree.ensures refl in
    let walked = subst (λ s. AreWalked s.bundle log c.args.i
    (λ ws. record { board = s.board; arriving = None; bound = c.bound.result } ∷ ws) c.tree.result.now c.in-Some.behind.now)
    c.new.ensures c.in-Some.ensures.some [] in
    none_left (IsGood v log c.args.i) c.is_empty.result c.in-Some.behind.now c.is_empty.ensures
    (λ g. walked.0 (good.0 g), λ none. good.1 (walked.1 none))

-- a lemma whose bytes begin with no tree for its board isn't good
pub returns-in-None : goal.returns-in-None
returns-in-None c =
    let v = c.args.bundle.now in
    let log = c.args.log.now in
    let good = root-pending v log c.args.i c.requires.there c.board-board.result c.bound.result c.tree.result.now []
    c.board-board.ensures.value c.bound.ensures c.tree.ensures refl in
    let none = subst (λ s. AreNeverPending s.bundle log c.args.i
    (λ ws. record { board = s.board; arriving = None; bound = c.bound.result } ∷ ws) c.tree.result.now)
    c.new.ensures c.in-None.ensures.none in
    refused (IsGood v log c.args.i) (λ g. none [] (good.0 g))
