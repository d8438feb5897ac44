-- What public contracts say.
pub mod Answers
pub mod Claims
-- What searches come to.
pub mod Searches
