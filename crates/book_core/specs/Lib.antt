-- What public contracts say.
pub mod Passes
pub mod Jobs
pub mod Places
pub mod Books
pub mod Steps
pub mod Runs
pub mod Laws
pub mod Shares
-- How values are stored.
pub mod StoredBooks
