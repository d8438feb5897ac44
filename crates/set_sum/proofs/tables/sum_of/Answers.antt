use Rattle.std.proofs.Common.{◌≡◌, ◌+◌, ◌<◌, ◌∷◌, true, drop, get_or, inl, inr, length, suc, sym, ◌∙◌, ap, subst, arith, take}
use Rattle.std.specs.Prelude.{Any}
use Rattle.std.proofs.lemmas.List.{take_more}
use Rattle.puz_board.specs.Boards.{IsBoardOf, side_of}
use Rattle.tab_rule.specs.Counts.{AreCellsOf}
use Rattle.tab_rule.specs.declared.tables.Count.{Count}
use Rattle.tab_rule.specs.declared.tables.Count.TheVariants.{Finite, Never}
use Rattle.set_sum.specs.Members.{MemberSays, board_for}
use Rattle.set_sum.specs.Parts.{PartSays, part_pattern, part_shown, parts_shown}
use Rattle.set_sum.specs.Sums.{AddUpTo}
use Rattle.set_sum.specs.declared.members.Member.{Member}
use Rattle.set_sum.proofs.AnyLemmas.{Any-here, Any-right}
use Rattle.set_sum.proofs.ListLemmas.{all_at, no_member, part_at, split_at, table_has}
use Rattle.set_sum.proofs.MemberLemmas.{board_for-good}
use Rattle.set_sum.proofs.MirrorLemmas.{cells_for}
use Rattle.set_sum.proofs.SumLemmas.{AddUpTo-push}
use Rattle.set_sum.proofs.tables.sum_of.Goals.{After-index-tables-from, then-member, else-member}
use Rattle.set_sum.proofs.tables.sum_of.Goals as goal

-- the member whose turn it is
abbrev turn : After-index-tables-from → Member
turn c = get_or c.args.set.now c.loop-member.member-index no_member

there : (c : After-index-tables-from) → (turn c).table < length c.args.tables.now
there c = all_at (λ m. m.table < length c.args.tables.now) c.args.set.now c.loop-member.member-index no_member c.loop-member-test.true c.requires.there

is_table : (c : After-index-tables-from) → c.index-tables-from.result ≡ get_or c.args.tables.now (turn c).table c.index-tables-from.result
is_table c = c.index-tables-from.is ∙ ap (λ k. get_or c.args.tables.now k c.index-tables-from.result) c.from.ensures

-- its table is asked about the board that it looks up
good : (c : After-index-tables-from) → IsBoardOf (part_pattern c.index-tables-from.result).side (board_for (turn c) c.args.board.now)
good c =
    let side = table_has c.args.tables.now (turn c) c.index-tables-from.result (there c) (is_table c)
    (λ t. (part_pattern t).side ≡ side_of c.args.board.now) c.requires.side in
    subst (λ n. IsBoardOf n (board_for (turn c) c.args.board.now)) (sym side)
    (board_for-good (side_of c.args.board.now) (turn c) c.args.board.now c.cells_of_all-found.ensures.board)

cells : (c : After-index-tables-from) → AreCellsOf c.if-member.cells.now (board_for (turn c) c.args.board.now)
cells c =
    let set = c.args.set.now in
    let i = c.loop-member.member-index in
    let here = λ (h : (turn c).is_transposed ≡ true). subst (Any (λ m. m.is_transposed ≡ true)) (sym (split_at set i no_member c.loop-member-test.true)) (
    Any-right (λ m. m.is_transposed ≡ true) (take i set) (turn c ∷ drop (suc i) set) (Any-here (λ m. m.is_transposed ≡ true) (turn c) (drop (suc i) set) h)) in
    cells_for (turn c) c.args.board.now c.loop-member.found c.loop-member.transposed c.if-member.cells.now c.loop-member.invariant.plain
    (λ h. c.loop-member.invariant.transposed (here h)) (elim c.if-member.branch [
      | then-member w ↦ inl (w.if-member.true, ap (λ r. r.now) w.cells-is)
      | else-member w ↦ inr (w.if-member.false, ap (λ r. r.now) w.cells-is)
    ])

-- so what the table tells is what the member says
says : (c : After-index-tables-from) (count : Count) → PartSays (part_shown c.index-tables-from.result) (board_for (turn c) c.args.board.now) count
    → MemberSays (parts_shown c.args.tables.now) (turn c) c.args.board.now count
says c count is = subst (λ part. PartSays part (board_for (turn c) c.args.board.now) count)
    (sym (part_at c.args.tables.now (turn c) c.index-tables-from.result (there c) (is_table c))) is

-- the cells in which a member's table looks are those of a board of its side
pub look_in-requires : goal.look_in-requires
look_in-requires c = let at = (goal.at.look_in-requires c).After-index-tables-from in (board_for (turn at) c.args.board.now, good at, cells at)

-- adding what the next member says leaves the sum of all members so far
pub loop-member-preserved : goal.loop-member-preserved
loop-member-preserved c =
    let at = (goal.at.loop-member-preserved c).After-index-tables-from in
    let parts = parts_shown c.args.tables.now in
    let set = c.args.set.now in
    let i = c.loop-member.member-index in
    let told = says at (Finite c.in-Finite.count) (c.in-Finite.ensures.count (board_for (turn at) c.args.board.now) (good at) (cells at)) in
    let each = c.look_in.ensures.few c.in-Finite.count c.in-Finite.is in
    let so_far = c.loop-member.invariant.few in
    record {
      adds = subst (λ ms. AddUpTo parts ms c.args.board.now (c.loop-member.total + c.in-Finite.count))
          (sym (take_more set i no_member c.loop-member-test.true)) (
          AddUpTo-push parts (take i set) (turn at) c.args.board.now c.loop-member.total c.in-Finite.count c.loop-member.invariant.adds told);
      few = omega arith;
      plain = c.loop-member.invariant.plain;
      transposed = c.loop-member.invariant.transposed;
    }

-- where one member says never of the board, so does the set
pub returns-in-Never : goal.returns-in-Never
returns-in-Never c =
    let at = (goal.at.returns-in-Never c).After-index-tables-from in
    let parts = parts_shown c.args.tables.now in
    let set = c.args.set.now in
    let i = c.loop-member.member-index in
    let told = says at Never (c.in-Never.ensures.count (board_for (turn at) c.args.board.now) (good at) (cells at)) in
    subst (Any (λ m. MemberSays parts m c.args.board.now Never)) (sym (split_at set i no_member c.loop-member-test.true)) (
    Any-right (λ m. MemberSays parts m c.args.board.now Never) (take i set) (turn at ∷ drop (suc i) set) (
    Any-here (λ m. MemberSays parts m c.args.board.now Never) (turn at) (drop (suc i) set) told))
