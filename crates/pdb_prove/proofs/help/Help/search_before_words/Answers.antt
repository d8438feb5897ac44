use Rattle.std.proofs.Common.{◌∙◌, arith, subst, sym}
use Rattle.puz_search.specs.StoredGuides.{bundle_of}
use Rattle.pdb_prove.specs.Answers.{IsFoundFor}
use Rattle.pdb_prove.specs.Steps.{claim_of}
use Rattle.pdb_prove.proofs.SoonLemmas.{found_enough}
use Rattle.pdb_prove.proofs.help.Help.search_before_words.Goals.{then-few-posed-via-then-few-posed, then-few-posed-via-else-few-posed+then-not-is_spent}
use Rattle.pdb_prove.proofs.help.Help.search_before_words.Goals as goal

-- what is found over the boards that are left, where these are all or aren't spent, is right for the budget
pub returns-then-few-posed-clause-found : goal.returns-then-few-posed-clause-found
returns-then-few-posed-clause-found g c =
    let v = bundle_of c.args.self.now.sets in
    let found = c.answer-found.result in
    let claim = claim_of c.args.posed in
    let few = c.min-few.ensures in
    elim c.then-few-posed.branch [
      | then-few-posed-via-then-few-posed w ↦ subst (λ n. IsFoundFor v n claim found) w.if-few-posed.true c.answer-found.ensures
      | then-few-posed-via-else-few-posed+then-not-is_spent w ↦
          found_enough v c.min-few.result c.args.posed.budget (omega (arith, few)) claim found (sym w.is_spent.ensures ∙ w.if-not-is_spent.true)
          c.answer-found.ensures
    ]
