use Rattle.std.proofs.Common.{◌∙◌, arith, sym, ap}
use Rattle.book_live.proofs.StepMoves.{allows-look}
use Rattle.book_live.proofs.books.Book.look_at.Goals as goal

-- the seat of one pass may read the second word as a look
pub load-requires : goal.load-requires
load-requires c =
    let own = c.requires.alone in
    let key = c.self.invariant.0 ∙ ap (λ b. b.sizes) c.self.view_is in (
      c.requires.table ∙ sym (ap (λ b. b.table) c.self.view_is),
      omega (arith, c.self.invariant.1),
      rw (key, own.2) (allows-look _ c.self.inside.table.shared.table_id.slots c.args.seat.now.id own.0 own.1 c.args.seat.now.me.1),
    )
