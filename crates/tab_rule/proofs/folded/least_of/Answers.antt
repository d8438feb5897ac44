use Rattle.std.proofs.Common.{ℕ, take, get_or, inl, inr, sym, ◌∙◌, subst}
use Rattle.std.proofs.lemmas.List.{take_more}
use Rattle.tab_rule.specs.LeastEntries.{IsLeastEntry}
use Rattle.tab_rule.proofs.FoldLemmas.{least_more}
use Rattle.tab_rule.proofs.folded.least_of.Goals.{then-entry, else-entry}
use Rattle.tab_rule.proofs.folded.least_of.Goals as goal

-- with one entry more looked at, the least is that of all entries up to it
pub loop-entry-preserved : goal.loop-entry-preserved
loop-entry-preserved c =
    let xs = c.args.entries.now in
    let i = c.loop-entry.entry-index in
    let e : ℕ = get_or xs i 0 in
    subst (λ ys. IsLeastEntry ys c.if-entry.least) (sym (take_more xs i 0 c.loop-entry-test.true)) (
    least_more (take i xs) e c.loop-entry.least c.loop-entry.invariant c.if-entry.least (elim c.if-entry.branch [
      | then-entry w ↦ inr (w.if-entry.true, w.least-is ∙ w.min-least.ensures)
      | else-entry w ↦ inl (w.if-entry.false, w.least-is)
    ]))
