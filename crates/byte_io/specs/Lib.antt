-- What public contracts say.
pub mod Memory
pub mod Shelf
pub mod Streams
