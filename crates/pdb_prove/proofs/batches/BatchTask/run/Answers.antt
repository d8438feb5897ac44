use Rattle.std.proofs.Common.{◌+◌, ap, subst, sym}
use Rattle.puz_search.specs.Guides.{LeavesOutReversals, ShownGuide}
use Rattle.puz_search.specs.StoredGuides.{bundle_of}
use Rattle.pdb_prove.proofs.TellingLemmas.{soon_found}
use Rattle.pdb_prove.proofs.batches.BatchTask.run.Goals as goal

-- the claims of a batch have their starts
pub posed-posed-requires-clause-starts : goal.posed-posed-requires-clause-starts
posed-posed-requires-clause-starts c = c.args.self.now.over.size

-- the automaton of reversals has the side of the sets' boards
pub over-requires : goal.over-requires
over-requires c = (c.posed-posed.ensures.over _ c.args.self.now.over).1.0

-- the search for a claim of a batch begins with its start
pub answer_soon-requires : goal.answer_soon-requires
answer_soon-requires c = rw c.over.ensures.value (c.posed-posed.ensures.over _ c.args.self.now.over).0

-- what one thread finds for it is found at its place
pub returns : goal.returns
returns c =
    let posed = c.posed-posed.ensures in
    let over = posed.over _ c.args.self.now.over in
    let asked = c.args.self.now.asked.now in
    soon_found c.over.result (bundle_of c.args.self.now.sets) asked (asked.told + c.args.place) c.posed-posed.result.claim.now c.answer_soon.result
    c.over.ensures.guide (ap (λ (g : ShownGuide). g.bundle) c.over.ensures.value)
    (subst LeavesOutReversals (sym (ap (λ (g : ShownGuide). g.steps) c.over.ensures.value)) over.1.1) posed.claim
    (rw (posed.budget, posed.goal) at c.answer_soon.ensures)
