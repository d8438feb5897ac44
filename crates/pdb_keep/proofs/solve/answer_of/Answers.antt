use Rattle.std.proofs.Common.{◌≡◌, ◌∙◌, Err, Ok, Some, ap, refl, rules, sym}
use Rattle.pdb_verdict.specs.Bound.{TakesMemoryForBound}
use Rattle.pdb_verdict.proofs.RefusalLemmas.{cause_settled}
use Rattle.pdb_keep.specs.Solve.{IsUnmade, searched, unmade}
use Rattle.pdb_keep.proofs.solve.answer_of.Goals as goal

-- where a search made moves and a log, the answer keeps the log and says the moves
pub returns-in-Ok-Some : goal.returns-in-Ok-Some
returns-in-Ok-Some c = λ fold budget text sets tables same came.
    let made = c.in-Ok-Some.made in
    let is : c.in_ok-outcome.outcome ≡ Ok (Some made) = search (rules, c.in-Ok-Some.field-0-is) in
    let is_made = rw (sym c.in_ok-outcome.ensures.ok.0 ∙ is) at came in
    (_, record { outcome = searched made.moves.items made.log.items made.count; is_outcome = is_made; told = refl }, c.answer_on.ensures tables same)

-- where a search made nothing, the answer says why
pub returns-in-Err : goal.returns-in-Err
returns-in-Err c = λ fold budget text sets tables same came.
    let refused = c.in-Err.refused in
    let settled = c.in_ok-outcome.ensures.ok in
    let cause = cause_settled (IsUnmade c.args.goal fold budget text sets tables) (TakesMemoryForBound text tables) refused
    (λ memory. settled.1 (c.in-Err.is ∙ ap (λ x. Err x) memory)) (rw (sym settled.0 ∙ c.in-Err.is) at came) in
    (_, record { outcome = unmade refused; is_outcome = cause; told = refl }, c.told.ensures tables same)
