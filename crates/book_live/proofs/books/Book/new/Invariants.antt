use Rattle.std.proofs.Common.{◌≡◌, ◌-◌, ◌≤◌, [], length, vec_capacity}
use Rattle.book_core.specs.Shares.{all_fresh}
use Rattle.book_live.specs.Views.{view}
use Rattle.book_live.proofs.CallerLemmas.{AreFirstPasses, ShowsFirst}
use Rattle.book_live.proofs.books.Book.new.Given as goal

-- the passes so far are the book's first ones in seats of their own, and the first seat has all others
abbrev pub invariant-loop-number : goal.invariant-loop-number
invariant-loop-number l = record {
  room : l.workers ≤ vec_capacity l.passes;
  count : length l.passes.items ≡ l.number;
  table : l.seat.table_id ≡ l.book.table;
  rest : l.seat.me ≡ (view l.book.sizes (all_fresh l.number (l.workers - l.number)), []);
  dealt : AreFirstPasses l.book l.passes.items;
  shown : ShowsFirst l.book l.seat.me.0 l.passes.items;
}
