-- What public contracts say.
pub mod BoardLaws
pub mod Laws
pub mod Patterns
pub mod Placements
pub mod Ranks
pub mod Regions
-- How values are stored.
pub mod StoredPatterns
pub mod StoredPlacements
pub mod StoredSlots
