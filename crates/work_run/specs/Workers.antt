-- How many workers there may be: 1 to 64, each with a pass of its own.
pub use Rattle.book_core.specs.Books.{AreWorkers}
