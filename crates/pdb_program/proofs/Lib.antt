mod AnswerLemmas
mod ElseLemmas
mod HeadlineLemmas
mod JoinLemmas
mod LineLemmas
mod ProgramLemmas
mod SpellLemmas
mod TrueLemmas
