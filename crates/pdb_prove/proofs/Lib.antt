pub mod LineLemmas
pub mod TruthLemmas
pub mod ReadyLemmas
pub mod TellingLemmas
pub mod SoonLemmas
pub mod QuestionLemmas
pub mod EndLemmas
pub mod WordLemmas
