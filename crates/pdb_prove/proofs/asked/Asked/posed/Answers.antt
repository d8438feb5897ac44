use Rattle.std.proofs.Common.{get_or, subst, sym}
use Rattle.std.proofs.lemmas.List.{get_or_read}
use Rattle.puz_walk.specs.declared.starts.Start.{Start}
use Rattle.claim_text.specs.declared.claims.Claim.{Claim}
use Rattle.pdb_prove.specs.Steps.{IsPosed}
use Rattle.pdb_prove.proofs.asked.Asked.posed.Goals as goal

-- the search for the claim begins with its start, and the automaton of reversals is of its board's side
pub returns-clause-over : goal.returns-clause-over
returns-clause-over c = λ v over.
    let claim = c.index.result.now in
    let start = c.index-2.result.now in (
      subst (λ (x : Claim). IsPosed c.args.self.now.goal v x start) (sym c.index.ensures)
          (subst (λ (x : Start). IsPosed c.args.self.now.goal v (get_or c.args.self.now.claims.items c.args.number claim) x) (sym c.index-2.ensures) (over.each c.args.number claim start c.requires.number)),
      over.prunes,
    )

-- it is the one with the number
pub returns-clause-claim : goal.returns-clause-claim
returns-clause-claim c = get_or_read c.args.self.now.claims.items c.args.number c.index.result.now c.requires.number c.index.ensures
