-- What public contracts say.
pub mod Answers
pub mod Calls
pub mod Commands
pub mod Ended
pub mod Inputs
pub mod Io
pub mod Runs
pub mod Statuses
pub mod Writing
-- What proofs alone need.
pub mod Pages
pub mod Steps
