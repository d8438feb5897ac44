-- What public contracts say.
pub use Rattle.tab_make.specs.Layers
pub mod Faults
