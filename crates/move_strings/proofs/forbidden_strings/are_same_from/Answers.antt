use Rattle.std.proofs.Common.{get_or, subst}
use Rattle.move_strings.specs.Checks.{IsSameFrom}
use Rattle.move_strings.proofs.EffectLemmas.{IsSameOn-from}
use Rattle.move_strings.proofs.forbidden_strings.are_same_from.Goals as goal

-- one board with its blank in the cell tells whether the effects are the same from this cell
pub returns-in-Some : goal.returns-in-Some
returns-in-Some c =
    let board = c.in-Some.board in
    let is = c.in-Some.ensures.board in (
      λ holds k d inside.
          let entry = get_or c.args.forbidden.now k d in
          subst (λ cell. IsSameFrom c.args.side cell entry.string.items entry.witness.items) is.1
          (IsSameOn-from c.args.side board is.0 entry.string.items entry.witness.items (c.are_same_on.ensures.0 holds k d inside)),
      λ all. c.are_same_on.ensures.1 (λ k d inside. all k d inside board is.0 is.1),
    )
