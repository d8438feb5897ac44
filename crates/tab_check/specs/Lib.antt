-- What proofs alone need.
pub mod Jobs
