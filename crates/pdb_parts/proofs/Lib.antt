mod AnswerLemmas
mod FirstLemmas
mod LawLemmas
pub mod LineLemmas
mod MarkLemmas
mod NotingLemmas
mod ReadLemmas
pub mod ReplyLemmas
mod RunLemmas
