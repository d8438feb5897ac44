pub mod LetterLemmas
pub mod SolvingLemmas
mod ReplayLemmas
pub mod TurnLemmas
