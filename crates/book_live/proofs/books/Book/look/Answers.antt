use Rattle.std.proofs.Common.{◌∙◌, ap}
use Rattle.book_live.specs.StoredPasses.{deeds_of}
use Rattle.book_live.proofs.CallerLemmas.{seat-alone}
use Rattle.book_live.proofs.books.Book.look.Goals as goal

-- a pass that looks is alone in its seat
pub look_at-found-requires-clause-alone : goal.look_at-found-requires-clause-alone
look_at-found-requires-clause-alone c = (
  c.pass.inside.number,
  deeds_of c.pass.inside.seat.me.0,
  seat-alone c.pass.inside.seat.me c.pass.inside.number _ c.pass.invariant.0 (ap (λ p. p.book.sizes) c.pass.view_is ∙ ap (λ b. b.sizes) c.requires.book),
)
