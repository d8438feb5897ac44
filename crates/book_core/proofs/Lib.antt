pub mod ListLemmas
pub mod StepLemmas
pub mod LawLemmas
pub mod RunLemmas
pub mod ShareLemmas
