use Rattle.std.proofs.Common.{◌≡◌, ◌∙◌, ◌<◌, ◌++◌, ◌∷◌, List, [], Vec, ℕ, arith, drop, length, refl, rules, slice_index_or, take}
use Rattle.pdb_run.specs.Answers.{all_bytes}
use Rattle.pdb_prove.specs.Prove.{in_order}
use Rattle.pdb_prove.specs.Steps.{files_of}
use Rattle.pdb_prove.proofs.ReadyLemmas.{claims_cause}
use Rattle.pdb_prove.proofs.runs.run_prove.Given.{Over}
use Rattle.pdb_prove.proofs.runs.run_prove.Goals.{After-with_bytes-files}
use Rattle.pdb_prove.proofs.runs.run_prove.Goals as goal

-- the first of several files, and the others
first_out : {A : Type 0} (all rest : List (Vec ℕ A)) (text : Vec ℕ A) → 0 < length all → text ≡ slice_index_or all 0 text
    → rest ≡ take 0 all ++ drop 1 all → all_bytes all ≡ text.items ∷ all_bytes rest
first_out [] rest text some is left = absurd (omega (arith, some))
first_out (file ∷ all) rest text some is left = rw (is, left) refl

-- the files that were read are those of the claims, in their order
order : (g : Over) (c : After-with_bytes-files g) → all_bytes c.in-Ok.inputs.items ≡ in_order (files_of c.with_bytes-files.result)
order g c =
    let count = c.in-Ok.ensures.count in
    let some : 0 < length c.in-Ok.inputs.items = omega (arith, count) in
    first_out c.in-Ok.inputs.items c.remove-text.new.self.items c.remove-text.result some c.remove-text.ensures.value c.remove-text.ensures.by_index.2
    ∙ (rw c.as_slice.ensures.value at c.with_bytes-files.ensures.inputs)

-- where the text gives claims, the run ends with what comes of them
pub returns-in-Ok-read_claims-clause-ends : goal.returns-in-Ok-read_claims-clause-ends
returns-in-Ok-read_claims-clause-ends g c =
    let are = rw (order g (goal.at.returns-in-Ok-read_claims-clause-ends g c).After-with_bytes-files) at c.in-Ok.ensures.read in
    c.answer_claims.ensures.ends _ are c.with_bytes-files.ensures.fold

-- where it gives none, it ends with why
pub returns-clause-ends : goal.returns-clause-ends
returns-clause-ends g c =
    let are = rw (order g (goal.at.returns-clause-ends g c).After-with_bytes-files) at c.in-Ok.ensures.read in
    rw c.telling.ensures.status (c.tell_fault.ensures.ends (files_of c.with_bytes-files.result) _ are (search rules)
    (rw c.of_claims.ensures (claims_cause _ _ _ c.in-Err-read_claims.fault c.in-Err-read_claims.ensures.fault c.in-Err-read_claims.ensures.memory)))
