use Rattle.std.proofs.Common.{◌∙◌, arith, sym, ap}
use Rattle.book_live.proofs.SeatMoves.{joins-behind}
use Rattle.book_live.proofs.books.Book.join.Goals as goal

-- two seats of the book's table may be joined, the second one's passes behind those of the first
pub join_seat-requires : goal.join_seat-requires
join_seat-requires c =
    let table = sym (ap (λ b. b.table) c.self.view_is) in (
      c.requires.seat ∙ table,
      c.requires.other.0 ∙ table,
      c.requires.other.1,
      omega (arith, c.self.invariant.1),
      joins-behind c.self.inside.table.shared.key c.args.seat.now.id c.args.other.id c.args.seat.now.me.0 c.args.other.me.0,
    )
