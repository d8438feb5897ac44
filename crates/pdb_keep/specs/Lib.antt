-- What public contracts say.
pub mod GivenUp
pub mod Kept
pub mod Laws
pub mod MakeTable
pub mod Solve
pub mod Spared
-- What proofs alone need.
pub mod Steps
