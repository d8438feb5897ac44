use Rattle.std.proofs.Common.{◌<◌, ◌≤◌, length, slice_index, sym, subst, arith}
use Rattle.tab_rule.specs.declared.tables.Count.TheVariants.{Finite}
use Rattle.set_sum.specs.Bundles.{BundleSays}
use Rattle.puz_walk.specs.StoredWords.{AreOwnersOf}
use Rattle.puz_walk.proofs.JudgeLemmas.{sum_once}
use Rattle.puz_walk.proofs.tallies.tally_of.Goals as goal

-- sums within the limit, all owners and all entries of a board make its tally, and its sums are below one more than the limit
pub returns-clause-some : goal.returns-clause-some
returns-clause-some c =
    let v = c.args.position.now.bundle in
    let b = c.args.position.now.board in
    let same = c.bundle-bundle.ensures in
    let sums = c.in_ok-sums.sums in
    let told : (set : _) → set < length v.sets → BundleSays v set b (Finite (slice_index sums set)) × (slice_index sums set ≤ c.args.most) = (λ set low.
    subst (λ x. BundleSays v set x (Finite (slice_index sums set)) × (slice_index sums set ≤ c.args.most)) c.requires.board
    (subst (λ u. BundleSays u set c.args.board.now (Finite (slice_index sums set)) × (slice_index sums set ≤ c.args.most)) same
    (c.in_ok-sums.ensures.some set (subst (λ u. set < length u.sets) (sym same) low)))) in (
      record {
        sums_room = c.in_ok-sums.ensures.room;
        entries_room = c.all_entries.ensures.room;
        first = subst (λ u. 0 < length u.sets) same c.sets-sets.ensures.bundle.some_sets;
        owners = subst (λ u. AreOwnersOf u c.all_owners.result) same c.all_owners.ensures;
        each = λ set low. record { says = (told set low).0; are = c.all_entries.ensures.entries set low };
      },
      λ set d says.
          let is = told set says.there in
          let e = sum_once v set b d (slice_index sums set) says is.0 in
          let most = is.1 in
          omega arith,
    )
