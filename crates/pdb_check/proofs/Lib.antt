mod CheckLemmas
pub mod ReadLemmas
