use Rattle.std.proofs.Common.{◌++◌, refl, rules}
use Rattle.pdb_run.specs.Answers.{made_file}
use Rattle.pdb_run.specs.Writing.{digests_of, list_of}
use Rattle.pdb_run.proofs.PageLemmas.{adds_more, adds_then, writes_failed}
use Rattle.pdb_run.proofs.writing.say.Goals as goal

-- where the digests of an answer aren't all written, a front of the answer was
pub returns-in_err-add_digests : goal.returns-in_err-add_digests
returns-in_err-add_digests g c =
    let answer = c.args.answer.now in
    let behind = digests_of (list_of (made_file answer)) ++ answer.lines.bytes in
    let added = adds_more behind c.in_err-add_digests.ensures.added in
    search (rules, writes_failed c.on-page.ensures.empty _ c.from_residual.ensures.0 added)

-- where the digest of the made file isn't all written, a front of the answer was
pub returns-in_err-add_made_digest : goal.returns-in_err-add_made_digest
returns-in_err-add_made_digest g c =
    let failed = adds_more c.args.answer.now.lines.bytes c.in_err-add_made_digest.ensures.added in
    let added = adds_then c.in_ok-add_digests.ensures.added failed refl in
    search (rules, writes_failed c.on-page.ensures.empty _ c.from_residual-in_err-add_made_digest.ensures.0 added)

-- where the lines behind the digests aren't all written, a front of the answer was
pub returns-in_err-add_text : goal.returns-in_err-add_text
returns-in_err-add_text g c =
    let behind = adds_then c.in_ok-add_made_digest.ensures.added c.in_err-add_text.ensures.added refl in
    let added = adds_then c.in_ok-add_digests.ensures.added behind refl in
    search (rules, writes_failed c.on-page.ensures.empty _ c.from_residual-in_err-add_text.ensures.0 added)
