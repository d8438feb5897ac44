-- What public contracts say.
pub mod GoodLogs
pub mod Laws
pub mod LogFaults
pub mod Refutations
pub mod Trees
-- What proofs alone need.
pub mod Nodes
pub mod PendingBoard
pub mod Walks
