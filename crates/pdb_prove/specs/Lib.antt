-- What public contracts say.
pub mod Answers
pub mod Laws
pub mod Prove
-- What proofs alone need.
pub mod Steps
