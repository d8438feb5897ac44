-- What public contracts say.
pub mod Answers
pub mod Guides
pub mod Laws
pub mod Searches
-- How values are stored.
pub mod StoredGuides
-- What proofs alone need.
pub mod Prefixes
pub mod Outcomes
pub mod Nodes
pub mod Frontiers
