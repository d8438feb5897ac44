-- What public contracts say.
pub mod Walks
pub mod Starts
pub mod SumSteps
pub mod WordBundles
pub mod Outlines
pub mod WordSteps
-- How values are stored.
pub mod StoredSumWalks
pub mod Cuts
pub mod StoredWords
pub mod StoredWordWalks
pub mod Seats
pub mod StoredOutlines
pub mod StoredWordBundles
pub mod Tallies
pub mod Pasts
-- What proofs alone need.
pub mod WordSpots
