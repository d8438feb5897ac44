-- Boards that wait for the trees that refute them, one after the other, in the order of the bytes.
pub use Rattle.log_check.specs.Walks.{Pending, Waiting, all_moves, with_child, with_child_at, with_children}
