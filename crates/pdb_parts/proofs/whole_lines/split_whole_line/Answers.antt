use Rattle.std.proofs.Common.{◌-◌, ◌+◌, ◌∷◌, Option, Some, None, length, drop, take, arith, ap, sym, ◌∙◌}
use Rattle.std.proofs.lemmas.List.{length-drop, take_all}
use Rattle.std.specs.Prelude.{IfNone}
use Rattle.pdb_parts.specs.Joining.{whole_lines}
use Rattle.pdb_parts.proofs.LineLemmas.{next_whole_line, no_line}
use Rattle.pdb_parts.proofs.whole_lines.split_whole_line.Goals as goal

if_none : {A P : Type 0} (r : Option A) → P → IfNone r P
if_none None p = p
if_none (Some x) p = tt

-- where a text has no LF, it has no whole line
pub returns-in_err-end-clause-none : goal.returns-in_err-end-clause-none
returns-in_err-end-clause-none c = if_none c.from_residual.result (no_line c.args.text.now c.in_err-end.ensures.place)

-- a text up to its first LF, with it, is a whole line, and the others are behind it
pub returns-clause-some : goal.returns-clause-some
returns-clause-some c =
    let text = c.args.text.now in
    let start = c.in_ok-end.end + 1 in
    next_whole_line text c.in_ok-end.end c.in_ok-end.ensures.place ∙
    ap (λ behind. take start text ∷ whole_lines behind) (sym (take_all (length text - start) (drop start text) (omega (arith, length-drop start text))))
