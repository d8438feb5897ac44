use Rattle.std.proofs.Common.{◌+◌, ◌∷◌, ◌∙◌, [], ap, arith, length, length-append, refl, subst, sym}
use Rattle.pdb_prove.specs.Steps.{PrunesFor}
use Rattle.pdb_prove.proofs.ReadyLemmas.{posed_more, reversals_prune}
use Rattle.pdb_prove.proofs.TellingLemmas.{begun_told}
use Rattle.pdb_prove.proofs.asked.Asked.over.Goals as goal

-- with the start from one board more, the claims so far and this one have their starts
pub loop-claim-preserved : goal.loop-claim-preserved
loop-claim-preserved c =
    let far = c.loop-claim.invariant in
    rw c.in_ok-push.ensures.items (record {
      size = length-append c.loop-claim.starts.items (c.of.result ∷ []) ∙ ap (λ n. n + 1) far.size;
      each = posed_more c.args.goal _ c.as_slice-claim-items.result.now c.loop-claim.starts.items c.claim-item.result c.of.result c.loop-claim.claim-index
          c.loop-claim-test.true c.claim-item.is far.size far.each (record { is_start = c.of.ensures.start; board = c.of.ensures.board ∙ c.board_for.ensures.value });
    })

-- all claims have their starts, and the automaton of reversals has the side of the bundle
pub returns-clause-over : goal.returns-clause-over
returns-clause-over c =
    let far = c.loop-claim.invariant in
    let value = c.as_slice-claim-items.ensures.value in
    let all = ap length value in
    let done = c.loop-claim-test.false in
    let end = c.loop-claim.auto.claim-index-end in
    record {
      size = omega (arith, all, done, end, far.size);
      each = λ number claim start low. rw value at (far.each number claim start (omega (arith, all, done, low)));
      prunes = subst (λ n. PrunesFor n c.in_ok-reversals.reversals) c.side.ensures.side
          (subst (PrunesFor c.side.result) (sym c.in_ok-reversals.ensures.value) (reversals_prune c.side.result));
    }

-- none is told yet
pub returns-clause-none : goal.returns-clause-none
returns-clause-none c = λ v w. begun_told v w _ refl refl
