-- What public contracts say, and what proofs alone need.
pub mod Shares
