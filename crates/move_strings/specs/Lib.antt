-- What public contracts say.
pub mod Automata
pub mod BoundParts
pub mod Drafts
pub mod Laws
pub mod Least
pub mod Strings
-- What proofs alone need.
pub mod Checks
pub mod Tables
