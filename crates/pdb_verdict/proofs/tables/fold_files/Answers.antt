use Rattle.std.proofs.Common.{◌∷◌, [], append_assoc, arith, length-append}
use Rattle.std.specs.Vec.Iter.{into_iter_items}
use Rattle.std.proofs.lemmas.List.{map-append}
use Rattle.pdb_verdict.proofs.FoldingLemmas.{digests_of_snoc, fold_step}
use Rattle.pdb_verdict.proofs.tables.fold_files.Goals as goal

-- the digests and the folded tables of one file more come behind those of the files before
pub loop-file-preserved : goal.loop-file-preserved
loop-file-preserved g c =
    let so_far = c.loop-file.invariant in
    let before = c.loop-file.yielded in
    let file = c.in-Some.file in
    let is = c.as_slice-file.ensures.value in
    let whole = rw c.in-Some.ensures.steps.0 at so_far.whole in
    record {
      can_next = tt;
      is_finite = tt;
      whole = rw append_assoc whole;
      lines = rw (map-append, ← is, digests_of_snoc, ← so_far.lines) c.with_digest-parts.ensures.line;
      count = omega (arith, length-append before (file ∷ []), so_far.count, c.with_digest-parts.ensures.length);
      parts = fold_step before (into_iter_items c.next.new.self) c.args.files.items file c.as_slice-file.result.now is whole
          c.loop-file.parts c.with_digest-parts.result so_far.parts c.with_digest-parts.ensures.answer;
    }
