use Rattle.std.proofs.Common.{rules}
use Rattle.pdb_run.proofs.PageLemmas.{writes_failed}
use Rattle.pdb_run.proofs.writing.say_digests.Goals as goal

-- where the digest lines of files aren't all written, a front of them was
pub returns-in_err-add_digests : goal.returns-in_err-add_digests
returns-in_err-add_digests g c =
    search (rules, writes_failed c.on-page.ensures.empty _ c.from_residual.ensures.0 c.in_err-add_digests.ensures.added)
