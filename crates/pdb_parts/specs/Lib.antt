-- What public contracts say.
pub mod Beside
pub mod Joining
pub mod Laws
pub mod Parts
-- How values are stored.
pub mod Stored
-- What proofs alone need.
pub mod Steps
