use Rattle.book_core.proofs.ShareLemmas.{IsDealt-start, IsDealt-step, IsDealt-cut, IsDealt-join, IsDealt-whole}
use Rattle.book_core.proofs.laws.share_law.Goals as goal

-- the passes of a book are shared out at its start, and stay so by a step, by a cut share and by two joined ones
pub returns : goal.returns
returns c = record {
  start = IsDealt-start;
  step = λ b c shares i w p q dealt at. IsDealt-step b shares dealt i w p at q c;
  cut = λ b shares i share dealt. IsDealt-cut b shares dealt i share;
  join = λ b shares i j one other dealt. IsDealt-join b shares dealt i j one other;
  whole = λ b shares i share dealt. IsDealt-whole b shares dealt i share;
}
