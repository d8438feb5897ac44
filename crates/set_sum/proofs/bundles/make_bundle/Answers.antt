use Rattle.std.proofs.Common.{◌≡◌, ◌<◌, ◌≤◌, length, slice_index, sym, ◌∙◌, ap, subst}
use Rattle.std.specs.List.{AllByRecursion}
use Rattle.set_sum.specs.Bundles.{most_tables}
use Rattle.set_sum.specs.OverPatterns.{bundle_with}
use Rattle.set_sum.specs.Owners.{AreOwners}
use Rattle.set_sum.specs.Parts.{IsExactPart, part_pattern, parts_shown}
use Rattle.set_sum.specs.Reading.{IsBundleOf, first_side}
use Rattle.set_sum.proofs.BundleLemmas.{bundle_made, stored_made}
use Rattle.set_sum.proofs.ListLemmas.{all_weaker}
use Rattle.set_sum.proofs.bundles.make_bundle.Goals as goal
use Rattle.set_sum.proofs.bundles.make_bundle.Goals.{After-first_side-side, In_ok-sets}

-- the tables make a bundle with the sets
made : (c : In_ok-sets) → IsBundleOf c.args.tables.items c.args.text.now (bundle_with c.args.tables.items c.in_ok-sets.sets)
made c = subst (λ ts. IsBundleOf ts c.args.text.now (bundle_with ts c.in_ok-sets.sets)) c.deref.ensures.value c.in_ok-sets.ensures.ok.0

-- there is a first table
pub first_side-side-requires : goal.first_side-side-requires
first_side-side-requires c = subst (λ ts. 0 < length ts) (sym c.deref-2.ensures.value) (made (goal.at.first_side-side-requires c).In_ok-sets).alike.count.some

-- the side is that of the first table
side_is : (c : After-first_side-side) → c.first_side-side.result ≡ first_side c.args.tables.items
side_is c = c.first_side-side.ensures ∙ ap first_side c.deref-2.ensures.value

-- the tables whose owners are sought all have the side, and are no more than a bundle may have
pub all_owners-owners-requires : goal.all_owners-owners-requires
all_owners-owners-requires c =
    let at = goal.at.all_owners-owners-requires c in
    record {
      side = subst (AllByRecursion (λ t. (part_pattern t).side ≡ c.first_side-side.result)) (sym c.deref-3.ensures.value) (
          all_weaker (λ t. (part_pattern t).side ≡ first_side c.args.tables.items) (λ t. (part_pattern t).side ≡ c.first_side-side.result)
          (λ t same. same ∙ sym (side_is at.After-first_side-side)) c.args.tables.items (made at.In_ok-sets).alike.one_side);
      few = subst (λ ts. length ts ≤ most_tables) (sym c.deref-3.ensures.value) (made at.In_ok-sets).alike.count.few;
    }

-- the fields of the bundle that is made are those of a stored bundle
pub invariant_of-result : goal.invariant_of-result
invariant_of-result c =
    let at = goal.at.invariant_of-result c in
    let n = c.first_side-side.result in
    stored_made (record {
      side = n;
      tables = c.args.tables;
      sets = c.in_ok-sets.sets;
      owners = c.all_owners-owners.result;
      transposed = c.all_transposed.result;
    }) c.args.text.now (side_is at.After-first_side-side)
    (subst (AllByRecursion IsExactPart) c.deref.ensures.value c.in_ok-sets.ensures.ok.1)
    (made at.In_ok-sets)
    (record {
      room = c.all_owners-owners.ensures.room;
      each = λ tile low. subst (λ ts. AreOwners n (parts_shown ts) tile (slice_index c.all_owners-owners.result tile)) c.deref-3.ensures.value
          (c.all_owners-owners.ensures.owners tile low);
    })
    (record { room = c.all_transposed.ensures.room; each = c.all_transposed.ensures.cells })

-- the bundle that is made is the one that the tables and the text make
pub returns-clause-ok : goal.returns-clause-ok
returns-clause-ok c =
    let at = goal.at.returns-clause-ok c in
    bundle_made (record {
      side = c.first_side-side.result;
      tables = c.args.tables;
      sets = c.in_ok-sets.sets;
      owners = c.all_owners-owners.result;
      transposed = c.all_transposed.result;
    }) c.args.text.now (side_is at.After-first_side-side)
    (subst (AllByRecursion IsExactPart) c.deref.ensures.value c.in_ok-sets.ensures.ok.1)
    (made at.In_ok-sets)
