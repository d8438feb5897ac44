-- What proofs alone need.
pub mod BlockColumns
pub mod Columns
pub mod Limits
pub mod Moves
