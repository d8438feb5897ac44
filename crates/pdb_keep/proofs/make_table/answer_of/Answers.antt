use Rattle.std.proofs.Common.{◌≡◌, ◌∙◌, [], Err, Ok, Some, ap, refl, rules, sym}
use Rattle.pdb_keep.specs.MakeTable.{ArePattern, IsUnbuilt, built, unbuilt}
use Rattle.pdb_verdict.proofs.RefusalLemmas.{cause_settled}
use Rattle.pdb_keep.proofs.make_table.answer_of.Goals as goal

-- a table that was built and found exact is kept by the answer, which says its verdict
pub returns-in-Ok-Some : goal.returns-in-Ok-Some
returns-in-Ok-Some c = λ side mask is_built wrong why.
    let made = c.in-Ok-Some.built in
    let is : c.in_ok-build.build ≡ Ok (Some made) = search (rules, c.in-Ok-Some.field-0-is) in
    let is_build = rw (sym c.in_ok-build.ensures.ok.0 ∙ is) at is_built in (
      _,
      record { build = built made.file.items made.said; is_build = is_build; told = refl },
      record { digested = refl; made = refl; lines = c.line_of.ensures; is_yes = refl },
    )

-- where no table was built, the answer says why
pub returns-in-Err : goal.returns-in-Err
returns-in-Err c = λ side mask is_built wrong why.
    let settled = c.in_ok-build.ensures.ok in
    let refused = c.in-Err.refused in
    let cause = rw (sym settled.0 ∙ c.in-Err.is) at why in
    let is = cause_settled (IsUnbuilt side mask) (ArePattern side mask) refused
    (λ same. settled.1 (c.in-Err.is ∙ ap (λ x. Err x) same)) cause in
    (_, record { build = unbuilt refused; is_build = is; told = refl }, c.told.ensures [] refl)
