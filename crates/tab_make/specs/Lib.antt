-- What public contracts say.
pub mod Faults
pub mod Layers
-- What proofs alone need.
pub mod Pieces
pub mod Stops
