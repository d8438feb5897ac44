-- What public contracts say.
pub mod Logs
pub mod LogFiles
pub mod FormFaults
pub mod Laws
-- How values are stored.
pub mod StoredLogs
-- What proofs alone need.
pub mod FirstLemmas
pub mod Parts
