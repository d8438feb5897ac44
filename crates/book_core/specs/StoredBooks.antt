-- How a book is stored: its numbers fit their types.
use Rattle.std.specs.Prelude.{◌+◌, ◌≤◌, ◌^◌, length}
use Rattle.book_core.specs.Books.{Book, ended_count, most_workers}

-- next stays far below 2 ^ 64, as each claim draws a job or ends a pass
pub record IsInRange (b : Book) : Type 0 where
  pub jobs : b.jobs ≤ 2 ^ 32
  pub passes : length b.passes ≤ most_workers
  pub next : b.next ≤ b.jobs + ended_count b.passes
