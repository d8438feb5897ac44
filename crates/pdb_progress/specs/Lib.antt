-- What public contracts say.
pub mod Paces
pub mod Shares
