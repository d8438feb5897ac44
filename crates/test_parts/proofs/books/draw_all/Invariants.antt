use Rattle.std.proofs.Common.{◌≡◌, ◌-◌, false, length}
use Rattle.test_parts.proofs.books.draw_all.Given as goal

-- the pass is one of the book with the number that it had, and goes on
abbrev pub invariant-loop-job : goal.invariant-loop-job
invariant-loop-job l = record { book : l.pass.book ≡ l.book; number : l.pass.number ≡ l.fn.pass.number; going : l.pass.deeds.ended ≡ false }

-- how many jobs are left to draw gets less with each draw
abbrev pub decreases-loop-job : goal.decreases-loop-job
decreases-loop-job l = l.book.sizes.jobs - length l.pass.deeds.drawn
