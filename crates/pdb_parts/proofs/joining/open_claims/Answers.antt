use Rattle.std.proofs.Common.{◌≡◌, ◌++◌, ◌∙◌, [], Bool, List, ap, false, filter, flat_map, get_or, not, sym, true, ℕ}
use Rattle.std.proofs.lemmas.Bool.{cond-false, cond-true}
use Rattle.std.proofs.lemmas.List.{append-nil}
use Rattle.std.specs.List.{range_with_len}
use Rattle.pdb_parts.specs.Joining.{open_claim}
use Rattle.pdb_parts.specs.Stored.{shown}
use Rattle.pdb_parts.proofs.MarkLemmas.{left_more}
use Rattle.pdb_parts.proofs.joining.open_claims.Goals as goal

-- the claim of a part without a mark is put behind those of the parts before
pub loop-index-preserved : goal.loop-index-preserved
loop-index-preserved c =
    let claim : ℕ → List ℕ = open_claim (shown c.args.asked.now) in
    let is_open : ℕ → Bool = λ i. not (get_or c.args.holds.now i false) in
    let index = c.loop-index.index in
    let before = flat_map claim (filter is_open (range_with_len 0 index)) in
    let here : is_open index ≡ true = ap not (ap (λ k. get_or c.args.holds.now k false) (sym c.from.ensures) ∙ c.if-holds-from.false) in
    c.in_ok-push_str.ensures.bytes ∙ (λ i. c.loop-index.invariant i ++ (c.as_str.ensures.value ∙ c.open_claim.ensures) i) ∙
    ap (λ text. before ++ text) (sym (cond-true (is_open index) (claim index) [] here)) ∙ sym (left_more claim is_open index)

-- a part with a mark adds nothing to the claims of the parts before
pub loop-index-preserved-then-holds-from : goal.loop-index-preserved-then-holds-from
loop-index-preserved-then-holds-from c =
    let claim : ℕ → List ℕ = open_claim (shown c.args.asked.now) in
    let is_open : ℕ → Bool = λ i. not (get_or c.args.holds.now i false) in
    let index = c.loop-index.index in
    let before = flat_map claim (filter is_open (range_with_len 0 index)) in
    let here : is_open index ≡ false = ap not (ap (λ k. get_or c.args.holds.now k false) (sym c.from.ensures) ∙ c.if-holds-from.true) in
    c.loop-index.invariant ∙ sym (append-nil before) ∙ ap (λ text. before ++ text) (sym (cond-false (is_open index) (claim index) [] here))
    ∙ sym (left_more claim is_open index)
