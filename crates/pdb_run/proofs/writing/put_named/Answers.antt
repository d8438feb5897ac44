use Rattle.std.proofs.Common.{codes, map, ◌++◌, refl, rules}
use Rattle.pdb_run.specs.Writing.{shown_byte}
use Rattle.pdb_run.proofs.PageLemmas.{adds_more, adds_then, writes_failed}
use Rattle.pdb_run.proofs.writing.put_named.Goals as goal

-- where the text before the name isn't all written, a front of the line was
pub returns-in_err-add_text : goal.returns-in_err-add_text
returns-in_err-add_text g c =
    let added = adds_more (map shown_byte c.args.name.now ++ codes "\n") c.in_err-add_text.ensures.added in
    search (rules, writes_failed c.on-page.ensures.empty _ c.from_residual.ensures.0 added)

-- where the name isn't all written, a front of the line was
pub returns-in_err-add_name : goal.returns-in_err-add_name
returns-in_err-add_name g c =
    let failed = adds_more (codes "\n") c.in_err-add_name.ensures.added in
    let added = adds_then c.in_ok-add_text.ensures.added failed refl in
    search (rules, writes_failed c.on-page.ensures.empty _ c.from_residual-in_err-add_name.ensures.0 added)

-- where the end of the line behind the name isn't written, a front of the line was
pub returns-in_err-add_text-2 : goal.returns-in_err-add_text-2
returns-in_err-add_text-2 g c =
    let behind = adds_then c.in_ok-add_name.ensures.added c.in_err-add_text-2.ensures.added refl in
    let added = adds_then c.in_ok-add_text.ensures.added behind refl in
    search (rules, writes_failed c.on-page.ensures.empty _ c.from_residual-in_err-add_text-2.ensures.0 added)
