-- What public contracts say.
pub mod Headline
pub mod Laws
pub mod PartLines
pub mod Programs
pub mod Refusals
-- What proofs alone need.
pub mod Read
pub mod Steps
