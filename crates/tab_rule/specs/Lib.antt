-- What public contracts say.
pub mod BadEntries
pub mod Blocks
pub mod Counts
pub mod Entries
pub mod ExactTables
pub mod FoldedTables
pub mod Laws
pub mod Limits
pub mod LocalRule
pub mod TableFaults
-- How values are stored.
pub mod StoredFolds
pub mod StoredTables
-- What proofs alone need.
pub mod LeastEntries
