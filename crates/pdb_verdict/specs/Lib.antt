-- What public contracts say.
pub mod BegunClaims
pub mod Bound
pub mod FileBundles
pub mod Inputs
pub mod Laws
pub mod Limits
pub mod Lines
pub mod Optimal
pub mod Refusals
pub mod Replay
pub mod Table
pub mod Verdicts
-- What the steps of a check answer, for proofs and for the runs of commands.
pub mod Steps
