mod BoardFacts
pub mod BoardOf
pub mod CountLemmas
pub mod JoinLemmas
pub mod ListLemmas
pub mod MaskLemmas
mod MaskOfLemmas
pub mod NextLemmas
pub mod PatternLemmas
pub mod PlacementLemmas
pub mod RankLemmas
mod RankSteps
pub mod SetLemmas
pub mod SlideLemmas
pub mod SlotLemmas
pub mod SlotSteps
mod SlotTableLemmas
mod StandingLemmas
pub mod TransposedLemmas
pub mod WidthLemmas
