use Rattle.std.proofs.Common.{◌∙◌, arith, sym, ap}
use Rattle.book_live.proofs.StepMoves.{allows-report}
use Rattle.book_live.proofs.books.Book.report_at.Goals as goal

-- the seat of one pass may lower the second word to a place as a report
pub fetch_min-requires : goal.fetch_min-requires
fetch_min-requires c =
    let own = c.requires.alone in
    let key = c.self.invariant.0 ∙ ap (λ b. b.sizes) c.self.view_is in (
      c.requires.table ∙ sym (ap (λ b. b.table) c.self.view_is),
      omega (arith, c.self.invariant.1),
      rw (key, own.2) (allows-report _ c.self.inside.table.shared.table_id.slots c.args.seat.now.id own.0 c.args.place own.1 c.args.seat.now.me.1
          c.requires.place),
    )
