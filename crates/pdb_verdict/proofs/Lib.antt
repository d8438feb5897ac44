pub mod BoundLemmas
pub mod BundleLemmas
pub mod ClaimLemmas
mod FoldingLemmas
pub mod FullTableLemmas
pub mod RefusalLemmas
pub mod ReplayLemmas
mod TableLemmas
pub mod VerdictLemmas
