use Rattle.std.proofs.Common.{◌∙◌, ap}
use Rattle.book_live.specs.StoredPasses.{deeds_of}
use Rattle.book_live.proofs.CallerLemmas.{seat-alone}
use Rattle.book_live.proofs.books.Book.claim.Goals as goal

-- a pass that claims is alone in its seat, and hasn't ended
pub claim_at-found-requires-clause-open : goal.claim_at-found-requires-clause-open
claim_at-found-requires-clause-open c = (
  c.pass.inside.number,
  deeds_of c.pass.inside.seat.me.0,
  seat-alone c.pass.inside.seat.me c.pass.inside.number _ c.pass.invariant.0 (ap (λ p. p.book.sizes) c.pass.view_is ∙ ap (λ b. b.sizes) c.requires.book),
  ap (λ p. p.deeds.ended) c.pass.view_is ∙ c.requires.open,
)
