use Rattle.std.proofs.Common.{◌∙◌, arith, sym, ap}
use Rattle.book_live.proofs.SeatMoves.{splits-first}
use Rattle.book_live.proofs.books.Book.split.Goals as goal

-- a seat of the book's table may be cut into its first pass and the others
pub split_seat-requires : goal.split_seat-requires
split_seat-requires c = (
  c.requires ∙ sym (ap (λ b. b.table) c.self.view_is),
  omega (arith, c.self.invariant.1),
  splits-first c.self.inside.table.shared.key c.args.seat.now.id c.args.seat.now.me.0,
)
