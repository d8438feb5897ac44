-- What public contracts say.
pub mod Bounds
pub mod Bundles
pub mod Known
pub mod Laws
pub mod Members
pub mod OverPatterns
pub mod Parts
pub mod Raised
pub mod Reading
pub mod SetTexts
pub mod Steps
pub mod Sums
pub mod ShownSums
-- How values are stored.
pub mod Owners
pub mod StoredBundles
pub mod StoredPositions
pub mod StoredSums
-- What proofs alone need.
pub mod Noting
pub mod ReadLines
