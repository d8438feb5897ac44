-- What public contracts say.
pub mod Goals
pub mod Laws
pub mod Turning
