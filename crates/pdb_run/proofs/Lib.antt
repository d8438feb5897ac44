pub mod AnswerLemmas
mod PageLemmas
pub mod ReadingLemmas
mod SpareLemmas
