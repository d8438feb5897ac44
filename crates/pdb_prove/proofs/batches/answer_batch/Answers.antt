use Rattle.std.proofs.Common.{◌∙◌, Some, ap, arith, length, refl}
use Rattle.puz_search.specs.StoredGuides.{bundle_of}
use Rattle.pdb_prove.specs.declared.answers.Finding.{Finding}
use Rattle.pdb_prove.proofs.TellingLemmas.{here_at, same_more, same_over, soon_at}
use Rattle.pdb_prove.proofs.WordLemmas.{not_wanted, room_wanted}
use Rattle.pdb_prove.proofs.batches.answer_batch.Goals as goal

-- at first nothing has changed
pub loop-place-init : goal.loop-place-init
loop-place-init g c = record {
  next = omega arith;
  same = record { claims = refl; starts = refl; reversals = refl; goal = refl; budget = refl };
  sets = refl;
  unprepared = c.requires.unprepared;
  goes_on = λ none. none;
  streams = refl;
  told = λ begun told. told;
}

-- the claims of the batch are among all
pub found_soon-soon-requires-clause-few : goal.found_soon-soon-requires-clause-few
found_soon-soon-requires-clause-few g c = let count = c.min-count.ensures in let left = c.requires.left in omega (arith, count, left)

-- the next claim is one of the batch
pub posed-requires-clause-number : goal.posed-requires-clause-number
posed-requires-clause-number g c =
    let far = c.loop-place.invariant in
    let count = c.min-count.ensures in
    let low = c.loop-place-test.true in
    let left = c.requires.left in
    let all = ap (λ claims. length claims.items) far.same.claims in
    omega (arith, count, low, left, all, far.next)

-- it has its start, as all claims do
pub posed-requires-clause-starts : goal.posed-requires-clause-starts
posed-requires-clause-starts g c = (same_over _ _ _ c.loop-place.invariant.same c.requires.over).size

pub search-requires-clause-posed : goal.search-requires-clause-posed
search-requires-clause-posed g c _ _ =
    let far = c.loop-place.invariant in
    (c.posed.ensures.over (bundle_of c.loop-place.help.sets) (rw far.sets (same_over _ _ _ far.same c.requires.over))).0

pub search-requires-clause-prunes : goal.search-requires-clause-prunes
search-requires-clause-prunes g c _ _ =
    let far = c.loop-place.invariant in
    (c.posed.ensures.over (bundle_of c.loop-place.help.sets) (rw far.sets (same_over _ _ _ far.same c.requires.over))).1

-- it has few letters, as all claims do
pub tell-requires-clause-few : goal.tell-requires-clause-few
tell-requires-clause-few g c = rw c.loop-place.invariant.same.claims c.requires.few

pub tell-requires-in-Some-clause-few : goal.tell-requires-in-Some-clause-few
tell-requires-in-Some-clause-few g c = rw c.loop-place.invariant.same.claims c.requires.few

-- where something was found soon for the next claim, it is told behind those before it
pub loop-place-preserved-in-Some-Some : goal.loop-place-preserved-in-Some-Some
loop-place-preserved-in-Some-Some g c =
    let far = c.loop-place.invariant in
    let lookup = c.in-Some-Some.ensures.lookup in
    let at = soon_at (bundle_of c.args.help.now.sets) c.args.asked.now c.loop-place.asked c.as_slice-soon.result.now c.loop-place.place c.in-Some-Some.found
    (rw c.as_slice-soon.ensures.value c.found_soon-soon.ensures) lookup.3.0 (lookup.3.1 (Some c.in-Some-Some.found)) c.in-Some-Some.field-0-is
    far.same far.next in
    record {
      next = (let more = c.in_ok-tell.ensures.next in omega (arith, more, far.next));
      same = same_more _ _ _ far.same c.tell.ensures.same;
      sets = far.sets;
      unprepared = far.unprepared;
      goes_on = far.goes_on;
      streams = c.tell.ensures.same_streams ∙ far.streams;
      told = λ begun told. c.in_ok-tell.ensures.told _ begun at (far.told begun told);
    }

-- and where all workers find something too
pub loop-place-preserved : goal.loop-place-preserved
loop-place-preserved g c =
    let far = c.loop-place.invariant in
    let v = bundle_of c.loop-place.help.sets in
    let at = here_at v c.loop-place.asked c.posed.result.claim.now c.in-Some.found c.posed.ensures.claim
    (rw (c.posed.ensures.budget, c.posed.ensures.goal) at c.in-Some.ensures.found) in
    record {
      next = (let more = c.in_ok-tell-in-Some.ensures.next in omega (arith, more, far.next));
      same = same_more _ _ _ far.same c.tell-in-Some.ensures.same;
      sets = c.search.ensures.sets ∙ far.sets;
      unprepared = not_wanted c.in-Some.found v c.search.new.self.words c.in-Some.ensures.wanted;
      goes_on = λ none. (c.search.ensures.goes_on (far.goes_on none)).0;
      streams = c.tell-in-Some.ensures.same_streams ∙ far.streams;
      told = λ begun told. rw far.sets at (c.in_ok-tell-in-Some.ensures.told v begun at (rw far.sets (far.told begun told)));
    }

-- where words are wanted first, there is all memory for them, and the claims before are told
pub returns-in-None-clause-wanted : goal.returns-in-None-clause-wanted
returns-in-None-clause-wanted g c = rw (← c.loop-place.invariant.sets) (room_wanted Finding _ _ c.in-None.ensures.wanted _)
