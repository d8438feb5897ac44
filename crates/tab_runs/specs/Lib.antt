-- What public contracts say.
pub mod Kinds
pub mod Rows
pub mod RowTables
pub mod Runs
-- How values are stored.
pub mod Beside
pub mod StoredRows
-- What proofs alone need.
pub mod Checks
pub mod Outside
pub mod Parts
pub mod RunPlaces
pub mod RunsOfTables
pub mod SetRows
pub mod Steps
