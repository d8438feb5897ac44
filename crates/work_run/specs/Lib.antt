-- What public contracts say.
pub mod Faults
pub mod Work
pub mod Workers
pub mod Laws
-- What proofs alone need.
pub mod PassesAtWork
