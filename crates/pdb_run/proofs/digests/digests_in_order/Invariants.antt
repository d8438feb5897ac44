use Rattle.std.proofs.Common.{◌≡◌, take}
use Rattle.pdb_run.specs.Writing.{all_bytes, digests_of}
use Rattle.pdb_run.proofs.digests.digests_in_order.Given as goal

-- the digest lines so far are those of the files so far
abbrev pub invariant-loop-file : goal.invariant-loop-file
invariant-loop-file l = l.digests.items ≡ digests_of (all_bytes (take l.file-index l.files))
