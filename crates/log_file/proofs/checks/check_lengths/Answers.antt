use Rattle.std.proofs.Common.{◌∙◌, ap, below_more, subst, sym}
use Rattle.log_file.specs.LogFiles.{HasLemma, behind}
use Rattle.log_file.specs.FormFaults.{behind_first}
use Rattle.log_file.proofs.RowLemmas.{behind_first-next}
use Rattle.log_file.proofs.checks.check_lengths.Goals as goal

-- the next lemma is whole, and the bytes behind the lemma are left
pub loop-i-preserved : goal.loop-i-preserved
loop-i-preserved c =
    let n = c.args.header.now.side in
    let at = c.loop-i.invariant in
    record {
      whole = below_more (λ k. HasLemma n (behind_first n k c.args.bytes.now)) c.loop-i.i at.whole (subst (HasLemma n) at.rest c.in-Some.ensures.some.0);
      rest = c.in-Some.ensures.some.2 ∙ ap (behind n) at.rest ∙ sym (behind_first-next n c.loop-i.i c.args.bytes.now);
    }
