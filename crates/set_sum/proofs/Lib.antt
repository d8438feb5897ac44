pub mod AnswerLemmas
pub mod AnyLemmas
pub mod BundleLemmas
mod CostLemmas
pub mod DecidedLemmas
pub mod HomeLemmas
mod LineLemmas
mod LinesReadLemmas
pub mod KnownLemmas
pub mod ListLemmas
pub mod MemberLemmas
mod MirrorLemmas
pub mod NumeralLemmas
pub mod OrderLemmas
pub mod ParityLemmas
pub mod PartLemmas
mod PatternLemmas
mod ReadLemmas
pub mod SayLemmas
pub mod SlideLemmas
pub mod StillLemmas
pub mod SumLemmas
mod TakenLemmas
pub mod TransposedFoldLemmas
mod TwiceLemmas
