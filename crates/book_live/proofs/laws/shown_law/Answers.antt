use Rattle.book_live.proofs.ReachLemmas.{BookLaw-reached}
use Rattle.book_live.proofs.StepMoves.{ShowsEvent-taken}
use Rattle.book_live.proofs.SeatMoves.{Shows-opened, Shows-made, Shows-joined}
use Rattle.book_live.proofs.laws.shown_law.Goals as goal

-- what is shown meets the machine's law, from the opening on, through each event, each new seat and each joining
pub returns : goal.returns
returns c = record {
  law = λ z s h. (h.0, h.1, BookLaw-reached z h.0 h.1, h.2);
  opening = λ z limits. Shows-opened z limits;
  event = λ z b s reached shows seat e p at may. ShowsEvent-taken z b s reached shows seat p e at may;
  make = λ z b s shows seat v at. Shows-made z b s shows seat v at;
  join = λ z b s shows seat other v u at apart there. Shows-joined z b s shows seat v at other u apart there;
}
