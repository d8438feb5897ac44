-- What public contracts say.
pub mod Claims
pub mod Laws
pub mod Lines
pub mod Parts
pub mod Texts
-- How values are stored.
pub mod Shown
