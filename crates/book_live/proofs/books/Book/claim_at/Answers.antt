use Rattle.std.proofs.Common.{◌∙◌, arith, sym, ap}
use Rattle.book_live.proofs.StepMoves.{allows-claim}
use Rattle.book_live.proofs.books.Book.claim_at.Goals as goal

-- the seat of a pass that hasn't ended may add one to the first word as a claim
pub fetch_add-requires : goal.fetch_add-requires
fetch_add-requires c =
    let own = c.requires.open in
    let key = c.self.invariant.0 ∙ ap (λ b. b.sizes) c.self.view_is in (
      c.requires.table ∙ sym (ap (λ b. b.table) c.self.view_is),
      omega (arith, c.self.invariant.1),
      rw (key, own.2) (allows-claim _ c.self.inside.table.shared.table_id.slots c.args.seat.now.id own.0 own.1 c.args.seat.now.me.1 own.3),
    )
