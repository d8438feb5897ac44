-- What public contracts say.
pub mod EntryBytes
pub mod EntryRules
pub mod Counts
pub mod Tables
pub mod TableFiles
pub mod HeadFields
pub mod HeadFaults
-- How values are stored.
pub mod StoredTables
