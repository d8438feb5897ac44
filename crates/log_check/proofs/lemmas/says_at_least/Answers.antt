use Rattle.std.proofs.Common.{◌≡◌, ◌≤◌, ◌∙◌, ap, le-leb, leb-true, subst, sym}
use Rattle.tab_rule.specs.declared.tables.Count.TheVariants.{Finite}
use Rattle.set_sum.specs.Bounds.{CountReaches}
use Rattle.set_sum.specs.Raised.{told_of}
use Rattle.set_sum.proofs.SayLemmas.{reaches_from_sum}
use Rattle.log_check.proofs.lemmas.says_at_least.Goals as goal

-- a set with a finite sum says enough exactly where what the sum tells is at least the bound
pub returns-in-Finite-clause-least : goal.returns-in-Finite-clause-least
returns-in-Finite-clause-least c =
    let r = c.args.reached.now in
    let b = r.sums.board in
    let told : Finite c.told_of.result ≡ told_of c.args.by_parity b (Finite c.in-Finite.sum) =
    c.told_of.ensures ∙ ap (λ s. told_of c.args.by_parity s.board (Finite c.in-Finite.sum)) c.sum.ensures.same in (
      λ test. record {
        count = Finite c.in-Finite.sum;
        says = c.in-Finite.ensures.sum;
        enough = subst (λ k. CountReaches k r.bound) told (subst (λ k. k ≤ c.told_of.result) c.from.ensures (leb-true c.from.result c.told_of.result test));
      },
      λ least. le-leb c.from.result c.told_of.result (subst (λ k. k ≤ c.told_of.result) (sym c.from.ensures)
          (subst (λ k. CountReaches k r.bound) (sym told) (reaches_from_sum r.sums.bundle c.args.by_parity c.args.set b
          (Finite c.in-Finite.sum) r.bound c.in-Finite.ensures.sum least))),
    )
