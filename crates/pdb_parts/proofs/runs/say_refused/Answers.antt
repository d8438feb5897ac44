use Rattle.std.proofs.Common.{◌∙◌, List, [], refl, subst, ℕ}
use Rattle.pdb_run.specs.Io.{IsSaid}
use Rattle.pdb_run.specs.declared.statuses.Status.TheVariants as status
use Rattle.pdb_parts.proofs.runs.say_refused.Goals as goal

-- the line of the fault is all that is said
pub returns-clause-said : goal.returns-clause-said
returns-clause-said g c =
    subst (λ (text : List ℕ). IsSaid text status.Refused (g.I.Io.world c.args.io.now) (g.I.Io.world c.say_text.new.io) c.say_text.result.status)
    (c.as_str.ensures.value ∙ (c.told-refused.ensures [] refl).lines) c.say_text.ensures.said
