use Rattle.std.proofs.Common.{◌≡◌, ℕ, ◌+◌, ◌-◌, ◌≤◌, List, slice_index, Some, inl, inr, sym, ◌∙◌, ap, subst, arith}
use Rattle.std.specs.Prelude.{bit_and}
use Rattle.tab_rule.specs.declared.tables.Count.TheVariants.{Finite}
use Rattle.edge_words.specs.Spots.{IsStepOf, IsWordOn}
use Rattle.set_sum.specs.Bundles.{BundleSays}
use Rattle.set_sum.specs.Members.{board_for}
use Rattle.puz_walk.specs.StoredWords.{move_for}
use Rattle.puz_walk.specs.WordBundles.{pattern_at}
use Rattle.puz_walk.specs.WordSpots.{AreKept, Shifts}
use Rattle.puz_walk.proofs.JudgeLemmas.{rise_free, rise_owned, sum_once, sum_shifted}
use Rattle.puz_walk.proofs.OwnerLemmas.{none_shifts, owner_moves, owner_shifts}
use Rattle.puz_walk.proofs.word_bundles.WordBundle.sum_after.Goals as goal
use Rattle.puz_walk.proofs.word_bundles.WordBundle.sum_after.Goals.{After-from-3}

-- the rise that is reckoned of a set's sum
abbrev rise : After-from-3 → ℕ
rise c = bit_and c.from-2.result c.seat-seat.result.owners

-- a set's sum with the rise that is reckoned is no less than the fall, and less the fall it is the sum after the move
reckoned : (c : After-from-3) (b next : List ℕ) (from to : ℕ) → IsStepOf c.args.self.now.side c.args.mv b next c.args.tile from to
    → AreKept c.args.self.now b c.args.spot.now.sums c.args.spot.now.kept
    → (c.seat-seat.result.owners - rise c ≤ slice_index c.args.spot.now.sums c.from-3.result + rise c)
    × BundleSays c.args.self.now c.args.set next (Finite (slice_index c.args.spot.now.sums c.from-3.result + rise c - (c.seat-seat.result.owners - rise c)))
reckoned c b next from to step kept =
    let v = c.args.self.now in
    let set = c.args.set in
    let low = c.requires.set in
    let bundle = c.seat-seat.ensures.bundle in
    let words = c.seat-seat.ensures.words.0 in
    let have = c.seat-seat.ensures.words.1 in
    let owners = c.seat-seat.result.owners in
    let sum = slice_index c.args.spot.now.sums c.from-3.result in
    let same : slice_index c.args.spot.now.sums set ≡ sum = ap (slice_index c.args.spot.now.sums) (sym c.from-3.ensures) in
    let says : BundleSays v set b (Finite sum) = subst (λ d. BundleSays v set b (Finite d)) same (kept.each set low).says in
    elim c.seat-seat.ensures.seat [
      | inl owned ↦
          let m = owned.owner.member in
          let is = owned.owns in
          let p = pattern_at v m.table in
          let moves = owner_moves v bundle words have set low c.args.mv b next c.args.tile from to step owned.owner is in
          let found = (kept.each set low).are is.number m is.member in
          let place = c.from.ensures ∙ owned.is.place in
          let word = subst (λ k. IsWordOn p (board_for m b) (slice_index c.args.spot.now.kept.words k)) (sym place) found.word_is in
          let shift = owner_shifts v bundle words have set low c.args.mv b next c.args.tile from to step owned.owner is c.raises.result
          (λ d least. c.raises.ensures p owned.owner.tile (move_for m c.args.mv) (board_for m b) (board_for m next) d moves owned.is.bit word least) sum says in
          let before = sum_once v set b shift.before sum shift.says_before says in
          let moved = sum_shifted c.raises.result (rise c) owners sum shift.after
          (rise_owned c.from-2.result owners c.raises.result c.from-2.ensures owned.is.owners) owned.is.owners
          (subst (λ d. Shifts (Some c.raises.result) d shift.after) before shift.is) in
          (moved.0, subst (λ d. BundleSays v set next (Finite d)) (sym moved.1) shift.says_after)
      | inr free ↦
          let shift = none_shifts v bundle words have set low c.args.mv b next c.args.tile from to step free.none sum says in
          let before = sum_once v set b shift.before sum shift.says_before says in
          let none : rise c ≡ 0 = rise_free c.from-2.result owners c.raises.result c.from-2.ensures free.vacant.owners in
          let vacant = free.vacant.owners in
          let still : shift.after ≡ shift.before = shift.is in
          let end : shift.after ≡ sum + rise c - (owners - rise c) = omega arith in
          (omega arith, subst (λ d. BundleSays v set next (Finite d)) end shift.says_after)
    ]

-- the fall of a set's sum can be taken from it
pub overflow_sub-result : goal.overflow_sub-result
overflow_sub-result c =
    let step = c.requires.step in
    (reckoned (goal.at.overflow_sub-result c).After-from-3 step.0 step.1 step.2 step.3 step.4 step.5).0

-- what is reckoned is the sum after the move
pub returns : goal.returns
returns c b next from to step kept = (reckoned (goal.at.returns c).After-from-3 b next from to step kept).1
