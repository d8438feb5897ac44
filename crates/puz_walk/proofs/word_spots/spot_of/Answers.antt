use Rattle.std.proofs.Common.{◌≡◌, ◌*◌, length, slice_index, take, sym, ◌∙◌, ap, subst, arith}
use Rattle.puz_board.specs.Boards.{IsBoardOf}
use Rattle.tab_rule.specs.declared.tables.Count.TheVariants.{Finite}
use Rattle.puz_walk.proofs.StartLemmas.{sum_said}
use Rattle.puz_walk.proofs.word_spots.spot_of.Goals as goal

-- a board's numbers, its blank, its sums within the limit and what its members look up make its spot
pub returns-clause-some : goal.returns-clause-some
returns-clause-some c =
    let v = c.args.bundle.now in
    let b = c.args.board.now in
    let sums = c.args.sums.now in
    let good : IsBoardOf v.side b = subst (λ n. IsBoardOf n b) c.requires.side c.side-side.ensures.board in
    let said = sum_said v b sums c.sets-set-end.ensures.bundle good c.requires.sums in
    let size : length b ≡ v.side * v.side = good.size in (
      record {
        board = good;
        space = c.numbers_of.ensures.room;
        numbers = ap (λ k. take k c.numbers_of.result) (sym size) ∙ c.numbers_of.ensures.numbers;
        blank_is = c.blank.ensures.cell;
        kept = record {
          room = record { sums_room = c.requires.sums.room; places = c.kept_of.ensures.room };
          each = λ set low. record { says = said set low; are = c.kept_of.ensures.each set low };
        };
      },
      λ set d says.
          let low = says.there in
          let all = c.loop-set-test.false in
          let end = c.sets-set-end.ensures.sets in
          let same : d ≡ slice_index sums set = c.requires.sums.each set d says in
          let most = c.loop-set.invariant set (omega arith) in
          omega arith,
    )

-- a set whose sum is above the limit goes beyond it
pub returns-then-sums-from-clause-none : goal.returns-then-sums-from-clause-none
returns-then-sums-from-clause-none c =
    let v = c.args.bundle.now in
    let b = c.args.board.now in
    let sums = c.args.sums.now in
    let set = c.loop-set.set in
    let good : IsBoardOf v.side b = subst (λ n. IsBoardOf n b) c.requires.side c.side-side.ensures.board in
    let more = c.loop-set-test.true in
    let end = c.sets-set-end.ensures.sets in
    let here : slice_index sums c.from.result ≡ slice_index sums set = ap (slice_index sums) c.from.ensures in
    let high = c.if-sums-from.true in (
      set,
      Finite (slice_index sums set),
      sum_said v b sums c.sets-set-end.ensures.bundle good c.requires.sums set (omega arith),
      (omega arith),
    )
