use Rattle.std.proofs.Common.{◌≡◌, ◌++◌}
use Rattle.book_live.specs.Views.{view}
use Rattle.book_live.specs.Callers.{numbered_passes}
use Rattle.book_live.proofs.books.Book.join_all.Given as goal

-- the seat has its own passes, and behind them those that were taken in so far
abbrev pub invariant-loop-pass : goal.invariant-loop-pass
invariant-loop-pass l = record {
  can_next : (goal.iterator-loop-pass).can_next l.pass-iterator;
  is_finite : (goal.iterator-loop-pass).is_finite l.pass-iterator;
  table : l.seat.table_id ≡ l.fn.seat.table_id;
  joined : l.seat.me ≡ (view l.fn.seat.me.0.sizes (l.fn.seat.me.0.held ++ numbered_passes l.yielded), l.fn.seat.me.1);
}
