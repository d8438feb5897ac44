use Rattle.std.proofs.Common.{◌≡◌, ◌∙◌, ap, subst, slice_index}
use Rattle.atomic_table.specs.Table.{Seen}
use Rattle.book_live.specs.Shown.{Shown}
use Rattle.book_live.specs.Closing.{IsWhole}
use Rattle.book_live.proofs.SeatMoves.{IsWhole-seen, slice_index-at}
use Rattle.book_live.proofs.books.Book.finish.Goals as goal

-- the second word at the end, when one seat has all passes, is that of the whole book
pub returns : goal.returns
returns c =
    let last = c.close_with-closed.ensures.values.2 in
    let s = last.0 in
    let key = c.self.invariant.0 ∙ ap (λ b. b.sizes) c.self.view_is in
    let seen = subst (λ z. Seen (Shown z) c.args.seat.id c.args.seat.me.0 s) key last.1 in
    let told = IsWhole-seen c.args.self.sizes c.args.seat.id c.args.seat.me.0 s c.requires.all seen in
    let word : slice_index s.words 1 ≡ c.word-least.result = ap (λ ws. slice_index ws 1) last.2 ∙ slice_index-at _ 1 c.word-least.result c.word-least.ensures in
    subst (IsWhole c.args.self.sizes c.args.seat.me.0) word told
