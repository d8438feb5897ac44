use Rattle.std.proofs.Common.{◌≡◌, ◌<◌, List, [], length, get_or, map, sym, ◌∙◌, ap, subst}
use Rattle.std.proofs.lemmas.List.{length-map}
use Rattle.set_sum.specs.declared.members.Member.{Member}
use Rattle.set_sum.proofs.ListLemmas.{mapped_at}
use Rattle.set_sum.proofs.set_texts.SetText.members.Goals as goal

-- the members that are answered are those that are kept for the set
pub returns-clause-members : goal.returns-clause-members
returns-clause-members c =
    let kept = c.self.inside.kept.items in
    let shown : List (List Member) = map (λ set. set.items) kept in
    let set = c.index-deref-from.result in
    let low : c.args.set < length kept = subst (λ n. c.args.set < n) (length-map kept (λ s. s.items))
    (subst (λ w. c.args.set < length w) (sym c.self.view_is) c.requires) in
    let is : set ≡ get_or kept c.args.set set = c.index-deref-from.is
    ∙ ap (λ s. get_or s c.from.result set) c.deref.ensures.0
    ∙ ap (λ k. get_or kept k set) c.from.ensures in
    c.as_slice.ensures.value ∙ sym (mapped_at (λ s. s.items) kept c.args.set set [] low is) ∙ ap (λ w. get_or w c.args.set []) c.self.view_is
