use Rattle.std.proofs.Common.{◌≡◌, cond, sym, ap, subst}
use Rattle.puz_board.specs.Boards.{IsBoardOf}
use Rattle.puz_board.specs.Transposing.{transposed}
use Rattle.tab_rule.specs.Counts.{AreCellsOf}
use Rattle.set_sum.specs.Members.{MemberSays, board_for, table_of}
use Rattle.set_sum.specs.Parts.{PartSays, part_pattern, part_shown}
use Rattle.set_sum.specs.StoredPositions.{numbers_shown}
use Rattle.set_sum.proofs.MemberLemmas.{board_for-good}
use Rattle.set_sum.proofs.positions.Position.look.Goals.{After-part, then-member, else-member}
use Rattle.set_sum.proofs.positions.Position.look.Goals as goal

turned : (c : After-part) → IsBoardOf (part_pattern c.part.result.now).side (board_for c.args.member (numbers_shown c.self.inside))
turned c =
    subst (λ n. IsBoardOf n (board_for c.args.member (numbers_shown c.self.inside))) (sym c.part.ensures.side)
    (board_for-good c.self.inside.bundle.now.side c.args.member (numbers_shown c.self.inside) c.self.invariant.board)

cells : (c : After-part) → AreCellsOf c.if-member.cells.now (board_for c.args.member (numbers_shown c.self.inside))
cells c =
    let s = c.self.inside in
    elim c.if-member.branch [
      | then-member w ↦
          subst (λ t. AreCellsOf c.if-member.cells.now (cond t (transposed (numbers_shown s)) (numbers_shown s))) (sym w.if-member.true)
          (subst (λ xs. AreCellsOf xs (transposed (numbers_shown s))) (sym (ap (λ r. r.now) w.cells-is)) c.self.invariant.transposed)
      | else-member w ↦
          subst (λ t. AreCellsOf c.if-member.cells.now (cond t (transposed (numbers_shown s)) (numbers_shown s))) (sym w.if-member.false)
          (subst (λ xs. AreCellsOf xs (numbers_shown s)) (sym (ap (λ r. r.now) w.cells-is)) c.self.invariant.cells)
    ]

-- the cells in which the table looks are those of the board that the member looks up
pub look_in-requires : goal.look_in-requires
look_in-requires c = let at = (goal.at.look_in-requires c).After-part in (board_for c.args.member (numbers_shown c.self.inside), turned at, cells at)

-- what the table tells of these cells is what the member says of the board
pub returns-clause-says : goal.returns-clause-says
returns-clause-says c =
    let at = (goal.at.returns-clause-says c).After-part in
    let s = c.self.inside in
    let b = numbers_shown s in
    let told : PartSays (part_shown c.part.result.now) (board_for c.args.member b) c.look_in.result =
    c.look_in.ensures.count (board_for c.args.member b) (turned at) (cells at) in
    let shown : part_shown c.part.result.now ≡ table_of s.bundle.now.tables c.args.member = c.part.ensures.part in
    subst (λ w. MemberSays w.bundle.tables c.args.member w.board c.look_in.result) c.self.view_is
    (subst (λ part. PartSays part (board_for c.args.member b) c.look_in.result) shown told)
