-- What public contracts say.
pub mod Floods
pub mod LocalRule
-- What proofs alone need.
pub mod Columns
pub mod FloodSteps
