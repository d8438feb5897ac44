pub mod AnswerLemmas
mod BoardLemmas
pub mod FileLemmas
mod RowLemmas
