pub mod AnswerLemmas
mod BoundLemmas
pub mod ClaimLemmas
pub mod CutLemmas
pub mod DecimalLemmas
pub mod LetterLemmas
mod NumeralLemmas
pub mod ReadingLemmas
pub mod RemarkLemmas
mod SideLemmas
pub mod ToldLemmas
mod WordLemmas
