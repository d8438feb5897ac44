mod AnswerLemmas
mod JobLemmas
mod TableLemmas
