pub mod AnswerLemmas
mod BehindLemmas
mod BoundLemmas
mod BranchLemmas
mod DecideLemmas
mod FirstBadLemmas
pub mod GoodLemmas
mod NodeLemmas
mod Pending
mod WalkLemmas
