-- What public contracts say.
pub mod Plans
