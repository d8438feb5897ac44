pub mod AnswerLemmas
pub mod BlockLemmas
pub mod CaseLemmas
mod DecidedLemmas
pub mod EntryLemmas
pub mod EntryNumberLemmas
mod ExactLemmas
pub mod FoldLemmas
pub mod LimitLemmas
mod LimitWays
pub mod LookLemmas
pub mod MoveLemmas
mod NearLemmas
mod NearestLemmas
pub mod OneResultLemmas
pub mod RegionLemmas
mod RuleLemmas
mod StepLemmas
pub mod StillLemmas
pub mod TableLemmas
pub mod ValueLemmas
mod Values
