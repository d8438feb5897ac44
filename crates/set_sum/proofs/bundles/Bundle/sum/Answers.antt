use Rattle.std.proofs.Common.{◌≡◌, ◌<◌, length, sym, ◌∙◌, ap, subst}
use Rattle.std.proofs.lemmas.List.{length-map}
use Rattle.std.specs.List.{AllByRecursion}
use Rattle.puz_board.specs.Boards.{IsBoardOf, side_of}
use Rattle.set_sum.specs.Bundles.{IsBundle, BundleSays, set_of}
use Rattle.set_sum.specs.Parts.{part_pattern, part_shown, parts_shown}
use Rattle.set_sum.specs.StoredBundles.{bundle_shown}
use Rattle.set_sum.specs.Sums.{SetSays}
use Rattle.set_sum.proofs.BundleLemmas.{set_there}
use Rattle.set_sum.proofs.ListLemmas.{all_weaker}
use Rattle.set_sum.proofs.SayLemmas.{says_bounds}
use Rattle.set_sum.proofs.bundles.Bundle.sum.Goals as goal

-- each table of a set's members is there, and all tables have the side of the board
pub sum_of-requires : goal.sum_of-requires
sum_of-requires c =
    let v = c.self.inside in
    let low : c.args.set < length (bundle_shown v).sets = subst (λ w. c.args.set < length w.sets) (sym c.self.view_is) c.requires.set in
    let there = subst (AllByRecursion (λ m. m.table < length (bundle_shown v).tables)) (sym c.members.ensures.members)
    (set_there (bundle_shown v) c.self.invariant.bundle c.args.set low) in
    record {
      there = subst (λ n. AllByRecursion (λ m. m.table < n) c.members.result.now)
          (length-map v.tables.items part_shown ∙ ap length (sym c.deref.ensures.value)) there;
      few = c.members.ensures.few;
      side = subst (AllByRecursion (λ t. (part_pattern t).side ≡ side_of c.args.board.now)) (sym c.deref.ensures.value) (
          all_weaker (λ t. (part_pattern t).side ≡ v.side) (λ t. (part_pattern t).side ≡ side_of c.args.board.now)
          (λ t same. same ∙ ap (λ w. w.side) c.self.view_is ∙ sym c.requires.side) v.tables.items c.self.invariant.tables);
    }

-- the sum over the stored members is what the set of the bundle says of the board
pub returns : goal.returns
returns c =
    let v = c.self.inside in
    let b = c.args.board.now in
    let set : set_of c.args.self.now c.args.set ≡ c.members.result.now = ap (λ w. set_of w c.args.set) (sym c.self.view_is)
    ∙ sym c.members.ensures.members in
    let tables : c.args.self.now.tables ≡ parts_shown c.deref.result.now = ap (λ w. w.tables) (sym c.self.view_is)
    ∙ ap parts_shown (sym c.deref.ensures.value) in
    let says : BundleSays c.args.self.now c.args.set b c.sum_of.result = record {
      there = c.requires.set;
      says = subst (λ s. SetSays c.args.self.now.tables s b c.sum_of.result) (sym set)
          (subst (λ ts. SetSays ts c.members.result.now b c.sum_of.result) (sym tables) c.sum_of.ensures);
    } in
    let is : IsBundle c.args.self.now = subst IsBundle c.self.view_is c.self.invariant.bundle in
    let board : IsBoardOf c.args.self.now.side b = subst (λ n. IsBoardOf n b) c.requires.side c.side-side.ensures.board in
    record { sum = says; bounds = says_bounds c.args.self.now is c.args.set b c.sum_of.result board says }
