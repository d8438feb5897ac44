use Rattle.std.proofs.Common.{◌≡◌, ◌*◌, ◌++◌, MatchResult, length, true}
use Rattle.std.specs.Vec.Iter.{into_iter_items}
use Rattle.pdb_run.specs.Answers.{all_bytes}
use Rattle.pdb_run.specs.Writing.{digests_of}
use Rattle.pdb_run.specs.declared.digests.TheConstants.{DIGEST_LEN}
use Rattle.pdb_verdict.specs.Steps.{ArePartsOf, IsCauseForTables}
use Rattle.pdb_verdict.proofs.tables.fold_files.Given as goal

-- the digest lines and the parts are those of the files so far
abbrev pub invariant-loop-file : goal.invariant-loop-file
invariant-loop-file g l = record {
  can_next : (goal.iterator-loop-file g).can_next l.file-iterator;
  is_finite : (goal.iterator-loop-file g).is_finite l.file-iterator;
  whole : l.yielded ++ into_iter_items l.file-iterator ≡ l.fn.files.items;
  lines : l.digests.items ≡ digests_of (all_bytes l.yielded);
  count : length l.digests.items ≡ length l.yielded * DIGEST_LEN;
  parts : MatchResult l.parts (λ parts. ArePartsOf true (all_bytes l.yielded) parts.items) (IsCauseForTables (all_bytes l.fn.files.items));
}
