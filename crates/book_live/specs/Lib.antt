-- What public contracts say.
pub mod Views
pub mod Shown
pub mod Steps
pub mod Callers
-- How values are stored.
pub mod StoredPasses
-- What proofs alone need.
pub mod SeatSteps
pub mod Closing
