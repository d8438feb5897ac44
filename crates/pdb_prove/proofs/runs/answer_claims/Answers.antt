use Rattle.std.proofs.Common.{◌≡◌, ◌∙◌, Bool, true, false, not, Option, Some, None, refl, sym}
use Rattle.std.specs.List.{All}
use Rattle.std.proofs.lemmas.List.Elements.{All-map}
use Rattle.claim_text.specs.Lines.{HasFewLetters}
use Rattle.claim_text.specs.Shown.{claim_shown}
use Rattle.puz_search.specs.StoredGuides.{bundle_of}
use Rattle.pdb_request.specs.Asked.{prove_shown}
use Rattle.pdb_run.specs.Answers.{all_bytes}
use Rattle.pdb_run.specs.Io.{HasRead}
use Rattle.pdb_run.specs.Runs.{World}
use Rattle.pdb_verdict.specs.FileBundles.{IsBundleOfFiles}
use Rattle.pdb_prove.specs.Prove.{budget_of, in_order, prove_inputs}
use Rattle.pdb_prove.specs.Steps.{HasBegun, IsRoomFor, claims_of, files_of}
use Rattle.pdb_prove.proofs.EndLemmas.{ends_answered, ends_cut}
use Rattle.pdb_prove.proofs.TellingLemmas.{same_more, same_over}
use Rattle.pdb_prove.proofs.runs.answer_claims.Given.{Over}
use Rattle.pdb_prove.proofs.runs.answer_claims.Goals.{After-over_words-help, In-Ok, In-Some}
use Rattle.pdb_prove.proofs.runs.answer_claims.Goals as goal

-- words are wanted of full tables alone
full_where : {A : Type 0} (fold : Bool) (words : Option A) (w : A) → (not fold ≡ false → words ≡ None) → words ≡ Some w → fold ≡ false
full_where false words w none some = refl
full_where true words w none some = absurd (let no : None ≡ Some w = sym (none refl) ∙ some in cc)

-- where something is wrong, or the digests aren't all written, the run ends so
pub returns-in-Err-clause-ends : goal.returns-in-Err-clause-ends
returns-in-Err-clause-ends g c = λ old are same.
    let files = files_of c.args.files in
    let over = c.over_tables-digested.ensures in
    let made = rw (same, ← over.found.2.1, c.as_slice-kept.ensures.value, c.given_up-given.ensures.all, c.as_slice.ensures.value) at over.found.1 in
    let digest = rw (c.as_slice-kept.ensures.value, c.given_up-given.ensures.all) at over.digested in
    c.in-Err.ensures.begins files old are digest (c.of-ready.ensures.ready _ files refl made)

-- where all is ready and the digests are written, the run has begun
has_begun : (g : Over) (c : In-Ok g) {old : World} → HasRead (prove_inputs (prove_shown c.args.command.now.0.now)) old (g.I.Io.world c.args.io.now) (in_order (files_of c.args.files))
    → c.args.files.fold ≡ (prove_shown c.args.command.now.0.now).fold
    → HasBegun (prove_shown c.args.command.now.0.now) (files_of c.args.files) old (g.I.Io.world c.begin.new.io) (claims_of c.in-Ok.ready.asked) c.in-Ok.ready.bundle
has_begun g c {old} are same =
    let files = files_of c.args.files in
    let over = c.over_tables-digested.ensures in
    let made = rw (same, ← over.found.2.1, c.as_slice-kept.ensures.value, c.given_up-given.ensures.all, c.as_slice.ensures.value) at over.found.1 in
    let digest = rw (c.as_slice-kept.ensures.value, c.given_up-given.ensures.all) at over.digested in
    c.in-Ok.ensures.begins files old are digest (c.of-ready.ensures.ready _ files refl made)

-- its budget is that of the command
budget_is : (g : Over) (c : In-Ok g) → c.in-Ok.ready.asked.budget ≡ budget_of (prove_shown c.args.command.now.0.now).budget
budget_is g c = (rw c.in-Ok.ensures.ready at c.of-ready.ensures.budget) ∙ c.budget_of.ensures

-- and so is its goal
goal_is : (g : Over) (c : In-Ok g) → c.in-Ok.ready.asked.goal ≡ (prove_shown c.args.command.now.0.now).goal
goal_is g c = rw c.in-Ok.ensures.ready at c.of-ready.ensures.goal

-- its claims are those that were read, and have few letters
have_few : (g : Over) (c : In-Ok g) → All HasFewLetters (claims_of c.in-Ok.ready.asked)
have_few g c =
    let same = rw c.in-Ok.ensures.ready at c.of-ready.ensures.claims in
    rw same (All-map HasFewLetters claim_shown c.args.claims.items c.requires.few)

-- none of them was told
pub answer_over_tables-requires-clause-few : goal.answer_over_tables-requires-clause-few
answer_over_tables-requires-clause-few g c _ _ = have_few g (goal.at.answer_over_tables-requires-clause-few g c).In-Ok

-- their searches have their starts
pub answer_over_tables-requires-clause-over : goal.answer_over_tables-requires-clause-over
answer_over_tables-requires-clause-over g c _ _ = c.in-Ok.ready.over

-- where the lines over the tables aren't all written, the run is cut short
pub returns-in-Err-answer_over_tables-clause-ends : goal.returns-in-Err-answer_over_tables-clause-ends
returns-in-Err-answer_over_tables-clause-ends g c = λ old are same.
    let at = (goal.at.returns-in-Err-answer_over_tables-clause-ends g c).In-Ok in
    let none = rw c.in-Ok.ensures.ready at c.of-ready.ensures.none in
    rw c.by.ensures.status (ends_cut _ c.answer_over_tables.new.asked (has_begun g at are same) c.answer_over_tables.ensures.same (goal_is g at) (budget_is g at)
    (c.in-Err-answer_over_tables.ensures.told _ (none _ _)))

-- where no words are wanted, the run ends with the answers to all claims
pub returns-in_default-clause-ends : goal.returns-in_default-clause-ends
returns-in_default-clause-ends g c = λ old are same.
    let at = (goal.at.returns-in_default-clause-ends g c).In-Ok in
    let none = rw c.in-Ok.ensures.ready at c.of-ready.ensures.none in
    let first = c.answer_over_tables.ensures.same in
    let done = rw c.in_default.is at c.in-Ok-answer_over_tables.ensures.wanted in
    ends_answered _ c.answer_over_tables.new.asked (has_begun g at are same) first (goal_is g at) (budget_is g at) _ (rw first.claims done)
    (c.in-Ok-answer_over_tables.ensures.told _ (none _ _)) c.told_end.ensures.status

-- words are wanted of the full tables of the files, whose bytes are there, and there is all memory for them
wanted : (g : Over) (c : In-Some g)
    → IsBundleOfFiles false (all_bytes c.given_up-given.new.files.items) c.args.files.sets.items c.in-Ok.ready.bundle × IsRoomFor c.in-Ok.ready.bundle c.in-Some.words
wanted g c =
    let over = c.over_tables-digested.ensures in
    let full = full_where c.args.files.fold _ _ c.in-Ok-answer_over_tables.ensures.goes_on c.in-Some.is in
    let made = rw (full, ← over.found.2.1, c.as_slice-kept.ensures.value, c.given_up-given.ensures.all, c.as_slice.ensures.value) at over.found.1 in
    let ready = rw c.in-Ok.ensures.ready at (c.of-ready.ensures.ready _ (files_of c.args.files) refl made) in
    (rw (c.given_up-given.ensures.full full) ready.is_bundle, rw c.in-Some.is at c.in-Ok-answer_over_tables.ensures.wanted)

-- so the words that are made are those of the tables' files
pub fill-words-requires-after_bounds : goal.fill-words-requires-after_bounds
fill-words-requires-after_bounds g c _ _ =
    let is = wanted g (goal.at.fill-words-requires-after_bounds g c).In-Some in (_, _, is.0, is.1)

pub bundle-bundle-requires : goal.bundle-bundle-requires
bundle-bundle-requires g c =
    let is = wanted g (goal.at.bundle-bundle-requires g c).In-Some in
    rw (c.fill-words.ensures.outline ∙ is.1.outline) (c.fill-words.ensures.words _ _ is.0 is.1)

-- the automaton of strings is of their side
pub over_words-help-requires : goal.over_words-help-requires
over_words-help-requires g c =
    let is = wanted g (goal.at.over_words-help-requires g c).In-Some in
    rw (c.bundle-bundle.ensures ∙ (c.fill-words.ensures.outline ∙ is.1.outline)) c.in-Ok-answer_over_tables.ensures.strings

-- the searches are led by the bundle as before
leads : (g : Over) (c : After-over_words-help g) → IsRoomFor c.in-Ok.ready.bundle c.in-Some.words → bundle_of c.over_words-help.result.sets ≡ c.in-Ok.ready.bundle
leads g c is = c.over_words-help.ensures.sets ∙ (c.bundle-bundle.ensures ∙ (c.fill-words.ensures.outline ∙ is.outline))

-- the claims that are left have few letters, as all claims do
pub answer_all-requires-clause-few : goal.answer_all-requires-clause-few
answer_all-requires-clause-few g c _ _ =
    rw c.answer_over_tables.ensures.same.claims (have_few g (goal.at.answer_all-requires-clause-few g c).In-Ok)

-- and their searches have their starts
pub answer_all-requires-clause-over : goal.answer_all-requires-clause-over
answer_all-requires-clause-over g c _ _ =
    let at = goal.at.answer_all-requires-clause-over g c in
    rw (leads g at.After-over_words-help (wanted g at.In-Some).1) (same_over _ _ _ c.answer_over_tables.ensures.same c.in-Ok.ready.over)

-- where all lines over words are written too, the run ends with the answers to all claims
pub returns-in-Ok-answer_all-clause-ends : goal.returns-in-Ok-answer_all-clause-ends
returns-in-Ok-answer_all-clause-ends g c = λ old are same.
    let at = goal.at.returns-in-Ok-answer_all-clause-ends g c in
    let none = rw c.in-Ok.ensures.ready at c.of-ready.ensures.none in
    let whole = same_more _ _ _ c.answer_over_tables.ensures.same c.answer_all.ensures.same in
    let next = rw (leads g at.After-over_words-help (wanted g at.In-Some).1) at c.in-Ok-answer_all.ensures.told in
    let done = rw (c.answer_all.ensures.goes_on c.over_words-help.ensures.goes_on, ← c.answer_all.ensures.same.claims) at c.in-Ok-answer_all.ensures.wanted in
    ends_answered _ c.answer_all.new.asked (has_begun g at.In-Ok are same) whole (goal_is g at.In-Ok) (budget_is g at.In-Ok) _ done
    (next _ (c.in-Ok-answer_over_tables.ensures.told _ (none _ _))) c.told_end-in-Ok-answer_all.ensures.status

-- where they aren't, it is cut short
pub returns-clause-ends : goal.returns-clause-ends
returns-clause-ends g c = λ old are same.
    let at = goal.at.returns-clause-ends g c in
    let none = rw c.in-Ok.ensures.ready at c.of-ready.ensures.none in
    let whole = same_more _ _ _ c.answer_over_tables.ensures.same c.answer_all.ensures.same in
    let next = rw (leads g at.After-over_words-help (wanted g at.In-Some).1) at c.in-Err-answer_all.ensures.told in
    rw c.by-in-Err-answer_all.ensures.status (ends_cut _ c.answer_all.new.asked (has_begun g at.In-Ok are same) whole (goal_is g at.In-Ok) (budget_is g at.In-Ok)
    (next _ (c.in-Ok-answer_over_tables.ensures.told _ (none _ _))))
