mod BlockLemmas
mod ColumnLemmas
mod DescribedLemmas
mod FloodLemmas
mod LimitLemmas
mod OneEntryLemmas
mod PartLemmas
mod TowardsLemmas
